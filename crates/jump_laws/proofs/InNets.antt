-- In a net, dates that move by the steps of their residues in a window do so for as many turns more as are free of overtakings,
-- and no more.
use Rattle.std.proofs.Common.{ℕ, ℤ, pos, ◌+◌, ◌-◌, ◌*◌, ◌<◌, ◌≤◌, ◌≡◌, length, get_or, sym, ap, subst, ◌∙◌, arith, ⊎_elim, inr}
use Rattle.std.specs.Prelude.{All, ◌*ℤ◌}
use Rattle.std.proofs.lemmas.Bool.{cases_lt}
use Rattle.std.proofs.lemmas.Option.{slice_get_past}
use Rattle.std.proofs.Math.Nat.{mul-le-mul}
use Rattle.dioid.specs.declared.dates.Date.{Date}
use Rattle.dioid.specs.declared.dates.Date.TheVariants.{Early, Never}
use Rattle.dioid.specs.Dates.{IsAtMostDate, move}
use Rattle.dioid.proofs.DateOrder.{at_most_early, at_most_is}
use Rattle.teg_net.specs.declared.entries.Place.{Place}
use Rattle.teg_net.specs.Nets.{NetLists, IsInput}
use Rattle.teg_model.specs.LiveRanks.{AreRanks, HasEndsInRange}
use Rattle.teg_model.specs.Datings.{IsLeastUnder, extended_places, available_at, initial_date, at_input, system_of}
use Rattle.teg_model.proofs.DateFunctions.{Dating}
use Rattle.teg_model.proofs.LeastOver.{least_over, least_is_tight}
use Rattle.teg_model.proofs.LiveRanks.{live_is_ranked}
use Rattle.teg_model.proofs.OfNet.{all_extended_in, at_input_is, input_or_not, least_is_over, least_of, ranks_extended}
use Rattle.teg_model.proofs.Tokens.{available_same}
use Rattle.jump_laws.specs.Jumps.{MovesTo, MovesUpTo, IsInTimeAfter, AreInTimeIn, IsJumpIn, MovesInTurns, IsJump, DatesJump, JumpsEndAtOvertakings, IsReleasedAfter, NoFallIsForEver}
use Rattle.jump_laws.proofs.Turns.{turns_on, none_falls_on}
use Rattle.jump_laws.proofs.InSystems.{token_on, jumps}

-- an input is a transition of the net
input_in : (net : NetLists) (t : ℕ) → IsInput net t → t < length net.transitions
input_in net t i =
    ⊎_elim
    (λ (l : t < length net.transitions). l)
    (λ (l : length net.transitions ≤ t). absurd (rw (slice_get_past net.transitions t l) at i))
    (cases_lt t (length net.transitions))

-- both ends of each place are in the net
both_in : (net : NetLists) → HasEndsInRange net → All (λ p. (p.from.index < length net.transitions) × (p.to.index < length net.transitions)) (extended_places net)
both_in net ends = all_extended_in net (λ p. (p.from.index < length net.transitions) × (p.to.index < length net.transitions)) ends (λ t l. (l, l))

-- the room of a window for each extended place
tokens_fit : (net : NetLists) (x : Dating) (after turn last : ℕ) (step : ℕ → ℕ → ℤ) → MovesInTurns net x after turn last step
    → All (λ p. after + p.tokens + turn + turn ≤ last) (extended_places net)
tokens_fit net x after turn last step w =
    let room = w.two_turns in
    all_extended_in net (λ p. after + p.tokens + turn + turn ≤ last) w.tokens (λ t l. omega (arith, room))

-- what is no input waits for nothing from outside
no_release : (net : NetLists) (t : ℕ) → at_input net t Never Early ≡ Early → (d : Date) → at_input net t d Early ≡ Early
no_release net t e d =
    ⊎_elim
    (λ i. let never = at_input_is net t Never Early i.0 in absurd (at_most_is Never Early (sym never ∙ e)))
    (λ n. n.0)
    (input_or_not net t d Early Early)

no_release_outside : (net : NetLists) (t : ℕ) → length net.transitions ≤ t → (d : Date) → at_input net t d Early ≡ Early
no_release_outside net t l d =
    ⊎_elim
    (λ i. let inside = input_in net t i.0 in absurd (omega (arith, inside, l)))
    (λ e. e.0)
    (input_or_not net t d Early Early)

module _ (net : NetLists) (ends : HasEndsInRange net) (u x : Dating) (h : IsLeastUnder net u x) (bound : ℕ) (r : ℕ → ℕ) (rr : AreRanks net.places bound r)
    (after turn last turns : ℕ) (step pace : ℕ → ℕ → ℤ) (w : IsJump net u x after turn last turns step pace) where
  abbrev n : ℕ
  n = length net.transitions

  abbrev lo : Dating
  lo = least_over (system_of net u) bound r

  same : (t k : ℕ) → t < length net.transitions → 1 ≤ k → least_over (system_of net u) bound r t k ≡ x t k
  same = least_is_over net u x bound r rr h

  outside : (t k : ℕ) → length net.transitions ≤ t → least_over (system_of net u) bound r t k ≡ Early
  outside t k l =
      at_most_early (lo t k)
      (least_is_tight (system_of net u) bound r (ranks_extended net bound r rr) t k Early
      (λ i d m e. let in' = (both_in net ends i d m).1 in absurd (omega (arith, in', e, l)))
      (rw (no_release_outside net t l (u t k)) tt))

  moves : (t : ℕ) → MovesTo (least_over (system_of net u) bound r t) after turn last (step t)
  moves t k a m =
      ⊎_elim
      (λ (l : t < n). same t (k + turn) l (omega (arith, a)) ∙ (w.window.moves t l k a m ∙ ap (move (step t k)) (sym (same t k l (omega (arith, a))))))
      (λ (l : n ≤ t). outside t (k + turn) l ∙ sym (ap (move (step t k)) (outside t k l)))
      (cases_lt t n)

  in_time : AreInTimeIn turns (system_of net u) (least_over (system_of net u) bound r) turn last step
  in_time k a m i d b =
      let p : Place = get_or (extended_places net) i d in
      let own = both_in net ends i d b in
      let room = w.window.two_turns in
      let token : available_at lo p k ≡ available_at x p k = available_same initial_date lo x p k (λ q. same p.from.index (k - p.tokens) own.0 (omega (arith, q))) in
      let date : lo p.to.index k ≡ x p.to.index k = same p.to.index k own.1 (omega (arith, a, room)) in
      let there : IsInTimeAfter turns step p k (available_at x p k) (x p.to.index k) = w.in_time k a m i d b in
      subst (λ e. IsAtMostDate (move (pos turns *ℤ step p.from.index (k - p.tokens)) (available_at lo p k)) (move (pos turns *ℤ step p.to.index k) e)) (sym date)
      (subst (λ e. IsAtMostDate (move (pos turns *ℤ step p.from.index (k - p.tokens)) e) (move (pos turns *ℤ step p.to.index k) (x p.to.index k))) (sym token) there)

  releases : (t : ℕ) → MovesTo (λ k. at_input net t (u t k) Early) (last - turn - turn) turn (last + turns * turn) (pace t)
  releases t k a m =
      ⊎_elim
      (λ i. at_input_is net t (u t (k + turn)) Early i.0 ∙ (w.releases t i.0 k a m ∙ ap (move (pace t k)) (sym (at_input_is net t (u t k) Early i.0))))
      (λ e. no_release net t e.0 (u t (k + turn)) ∙ sym (ap (move (pace t k)) (no_release net t e.0 (u t k))))
      (input_or_not net t Never Early Early)

  released : (t k : ℕ) → last < k + turn → k ≤ last
      → IsReleasedAfter turns step pace t k (at_input net t (u t k) Early) (least_over (system_of net u) bound r t k)
  released t k a m =
      let room = w.window.two_turns in
      ⊎_elim
      (λ i. rw (at_input_is net t (u t k) Early i.0, same t k (input_in net t i.0) (omega (arith, a, room))) (w.released t k i.0 a m))
      (λ e. rw (no_release net t e.0 (u t k)) tt)
      (input_or_not net t Never Early Early)

  jump : IsJumpIn (system_of net u) (least_over (system_of net u) bound r) after turn last turns step pace
  jump =
      let room = w.window.two_turns in
      record {
        window = record {
          at_least_one = w.window.at_least_one;
          two_turns = omega (arith, room);
          tokens = tokens_fit net x after turn last step w.window;
          residues = w.window.residues;
          moves = moves;
        };
        in_time = in_time;
        paces = w.paces;
        releases = releases;
        released = released;
      }

  pub jump_on : MovesUpTo (length net.transitions) x after turn (last + turns * turn) step
  jump_on t l k a m =
      let on = jumps (system_of net u) bound r (ranks_extended net bound r rr) lo (least_of net u bound r rr) after turn last turns step pace jump t k a m in
      sym (same t (k + turn) l (omega (arith, a))) ∙ (on ∙ ap (move (step t k)) (same t k l (omega (arith, a))))

pub dates_jump : DatesJump
dates_jump net ends live u x h after turn last turns step pace w =
    let ranked = live_is_ranked net ends live in
    jump_on net ends u x h ranked.0 ranked.1 ranked.2 after turn last turns step pace w

pub jumps_end : JumpsEndAtOvertakings
jumps_end net ends u x f after turn last turns step w moves k a m i d b =
    let p : Place = get_or (extended_places net) i d in
    let room = w.two_turns in
    let one = w.at_least_one in
    let own_ends = both_in net ends i d b in
    let few : after + p.tokens + turn + turn ≤ last = tokens_fit net x after turn last step w i d b in
    let fits : k + turns * turn ≤ last + turns * turn = omega (arith, m) in
    let its = token_on initial_date x after turn (last + turns * turn) (step p.from.index) p (w.residues p.from.index) (moves p.from.index own_ends.0) k turns (omega (arith, few, a, one)) fits in
    let own = turns_on (x p.to.index) after turn (last + turns * turn) (step p.to.index) (w.residues p.to.index) (moves p.to.index own_ends.1) k turns (omega (arith, a, room)) fits in
    let keeps : IsAtMostDate (available_at x p (k + turns * turn)) (x p.to.index (k + turns * turn)) = f.places (k + turns * turn) (omega (arith, a, room)) i d b in
    rw (its, own) at keeps

pub for_ever : NoFallIsForEver
for_ever net ends live u x h after turn last step pace w paces releases none t l k a =
    let room = w.two_turns in
    let one = w.at_least_one in
    let much : k * 1 ≤ k * turn = mul-le-mul {n₁ = k} {m₁ = 1} {n₂ = k} {m₂ = turn} (omega arith) one in
    let is : k * 1 ≡ k = grind arith in
    dates_jump net ends live u x h after turn last k step pace
    (record {
      window = w;
      in_time = λ c b m i d q.
          let p : Place = get_or (extended_places net) i d in
          none_falls_on (available_at x p c) (x p.to.index c) (step p.from.index (c - p.tokens)) (step p.to.index c) k
          (h.feasible.places c (omega (arith, b, room)) i d q) (none.places c b m i d q);
      paces = paces;
      releases = releases k;
      released = λ v c i b m.
          none_falls_on (u v c) (x v c) (pace v c) (step v c) k (h.feasible.inputs v c (omega (arith, b, room)) i) (inr (none.releases v c i b m));
    })
    t l k a (omega (arith, much, is, room))
