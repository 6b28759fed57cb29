-- Input lists that go on evenly move in turns of whole laps, and the least dating by them jumps.
use Rattle.std.proofs.Common.{ℕ, zero, suc, pos, ◌+◌, ◌-◌, ◌*◌, ◌/◌, ◌<◌, ◌≤◌, ◌≡◌, ◌+ℤ◌, List, length, Option, Some, None, refl, sym, ap, subst, ◌∙◌, arith, ⊎_elim}
use Rattle.std.specs.Prelude.{All}
use Rattle.std.proofs.lemmas.Int.{ints}
use Rattle.dioid.specs.declared.dates.Date.{Date}
use Rattle.dioid.specs.declared.dates.Date.TheVariants.{At}
use Rattle.dioid.specs.Dates.{delayed, move}
use Rattle.dioid.proofs.Moves.{move_zero, move_move, delayed_is_move}
use Rattle.teg_net.specs.declared.entries.Again.{Again}
use Rattle.teg_net.specs.declared.entries.InputList.{InputList}
use Rattle.teg_net.specs.Nets.{NetLists, EndsOrGoesOn, HasListsByRule}
use Rattle.teg_net.specs.Inputs.{moved_by, GoOnBy, list_date, date_by_list, list_of_input}
use Rattle.teg_net.proofs.InputDates.{IsInputDates-list_date, found_has}
use Rattle.teg_model.specs.Datings.{as_date, listed_releases}
use Rattle.jump_laws.specs.Jumps.{MovesTo}
use Rattle.jump_laws.specs.ListedJumps.{HasWholeLaps, GoesOnInTurns, gaps_in, pace_by_list, listed_pace, ListedReleasesMove, ListedDatesJump, JumpsTellTooLong}
use Rattle.jump_laws.proofs.InNets.{dates_jump}
use Rattle.jump_laws.proofs.Overtaken.{come_after}
use Rattle.settled_laws.specs.SettledForms.{step_of_form}

date_moved : (gap : ℕ) (o : Option ℕ) → as_date (moved_by gap o) ≡ delayed gap (as_date o)
date_moved gap None = refl
date_moved gap (Some d) = ap At (omega (arith, ints))

-- dates that go on by a gap in each lap move by as many gaps in some laps
laps_on : (d : ℕ → Date) (after every gap : ℕ) → ((k : ℕ) → after < k → d (k + every) ≡ delayed gap (d k))
    → (m k : ℕ) → after < k → d (k + m * every) ≡ move (pos (m * gap)) (d k)
laps_on d after every gap h zero k l =
    let is : k + 0 * every ≡ k = grind arith in
    let none : 0 * gap ≡ 0 = grind arith in
    rw (is, none) (sym (move_zero (d k)))
laps_on d after every gap h (suc m) k l =
    let is : k + suc m * every ≡ (k + m * every) + every = grind arith in
    let more : suc m * gap ≡ m * gap + gap = grind arith in
    let sum : pos (m * gap) +ℤ pos gap ≡ pos (suc m * gap) = omega (arith, ints, more) in
    ap d is
    ∙ (h (k + m * every) (omega (arith, l))
    ∙ (ap (delayed gap) (laps_on d after every gap h m k l)
    ∙ (delayed_is_move gap (move (pos (m * gap)) (d k))
    ∙ (move_move (pos (m * gap)) (pos gap) (d k) ∙ ap (λ z. move z (d k)) sum))))

by_again : (dates : List ℕ) (o : Option Again) (u : ℕ → Option ℕ) → EndsOrGoesOn dates o → GoOnBy (length dates) o u → (after turn : ℕ) → length dates ≤ after
    → HasWholeLaps turn o → (k : ℕ) → after < k → as_date (u (k + turn)) ≡ move (gaps_in turn o) (as_date (u k))
by_again dates None u h g after turn left laps k l = rw (g (k + turn) (omega arith), g k (omega arith)) refl
by_again dates (Some a) u h g after turn left laps k l =
    subst (λ z. as_date (u (k + z)) ≡ move (pos (turn / a.every * a.gap)) (as_date (u k))) laps
    (laps_on (λ j. as_date (u j)) after a.every a.gap
    (λ j b.
    let back : (j + a.every) - a.every ≡ j = omega arith in
    ap as_date (g (j + a.every) (omega arith) ∙ ap (λ i. moved_by a.gap (u i)) back) ∙ date_moved a.gap (u j))
    (turn / a.every) k l)

by_list : (net : NetLists) → HasListsByRule net → (turn after last : ℕ) → All (GoesOnInTurns turn after) net.inputs → (t : ℕ) (o : Option InputList) → o ≡ list_of_input net t
    → MovesTo (λ k. as_date (date_by_list o k)) after turn last (λ k. pace_by_list turn o)
by_list net rules turn after last h t None e k a m = sym (move_zero (At (pos 0)))
by_list net rules turn after last h t (Some l) e k a m =
    let rule : EndsOrGoesOn l.dates l.again = found_has (λ z. EndsOrGoesOn z.dates z.again) net.inputs t l rules e in
    let own : GoesOnInTurns turn after l = found_has (GoesOnInTurns turn after) net.inputs t l h e in
    by_again l.dates l.again (list_date l.dates l.again) rule (IsInputDates-list_date l rule).past after turn own.left own.laps k a

pub listed_move : ListedReleasesMove
listed_move net rules turn after last h t = by_list net rules turn after last h t (list_of_input net t) refl

pub listed_jump : ListedDatesJump
listed_jump net ends rules live x h after turn last turns step w =
    dates_jump net ends live (listed_releases net) x h after turn last turns step (listed_pace net turn)
    (record {
      window = w.window;
      in_time = w.in_time;
      paces = λ t k. refl;
      releases = λ t i. listed_move net rules turn (last - turn - turn) (last + turns * turn) w.lists t;
      released = w.released;
    })

pub too_long : JumpsTellTooLong
too_long net ends x h after turn last turns limit step w late room = (
  x,
  h,
  λ f stands.
      ⊎_elim
      (λ (q : last < f.after + f.period + turn + turn). omega (arith, q, room))
      (λ (q : last < after + f.period + turn + turn). omega (arith, q, room))
      (come_after net ends (listed_releases net) x h.feasible after turn last turns step w late f.after f.period (step_of_form f) stands.repeats),
)
