-- What is looked up to a turn past the numbers from which dates and due dates repeat tells all late numbers of a row.
use Rattle.std.proofs.Common.{ℕ, ℤ, zero, suc, ◌+◌, ◌-◌, ◌*◌, ◌<◌, ◌≤◌, ◌≡◌, length, refl, sym, ap, subst, ◌∙◌, arith, ⊎_elim, ◌+ℤ◌}
use Rattle.std.specs.Prelude.{pos}
use Rattle.std.proofs.lemmas.Bool.{cases_lt}
use Rattle.std.proofs.lemmas.Int.{ints}
use Rattle.walk_times.specs.dioid.declared.dates.Date.{Date}
use Rattle.walk_times.specs.dioid.declared.dates.Date.TheVariants.{At}
use Rattle.walk_times.specs.dioid.Dates.{IsAtMostDate, move}
use Rattle.walk_times.proofs.dioid_proofs.Moves.{at_inj}
use Rattle.teg_net.specs.Nets.{NetLists, HasEndsInRange}
use Rattle.teg_net.specs.Circuits.{IsLive}
use Rattle.walk_times.specs.teg_model.Datings.{IsLeastUnder}
use Rattle.walk_times.proofs.teg_model_proofs.Tokens.{dates_climb}
use Rattle.walk_times.specs.settled_laws.SettledForms.{step_of_form}
use Rattle.due_laws.specs.MeetingDueDates.{inputs_at_zero}
use Rattle.bound_laws.proofs.WalkTimes.{number_of}
use Rattle.endless_due.specs.declared.row.EndlessRow.{EndlessRow}
use Rattle.endless_due.specs.EndlessRows.{IsEndlessRow}
use Rattle.forever_laws.specs.Late.{IsLateAt, NoneLateTo, NoneLate, IsLeastLate}
use Rattle.forever_laws.specs.LateSearches.{IsCommonPeriodOf, turns_to, IsSoonest}
use Rattle.forever_laws.specs.EndlessDues.{TurnsTellLate, StepsAreFromZero}
use Rattle.forever_laws.proofs.GoingOn.{due_number, due_is, due_only, due_again}
use Rattle.forever_laws.proofs.FirstLate.{GoOn, on_by, never_late, IsFewest, IsFirstOver, first_late}
use Rattle.forever_laws.proofs.Zeros.{least_number, date_is, at_most_numbers}
use Rattle.forever_laws.proofs.Soon.{late_from, late_to}

moved : (z rise : ℕ) → number_of (move (pos rise) (At (pos z))) ≡ z + rise
moved z rise = refl

module _ (net : NetLists) (ends : HasEndsInRange net) (live : IsLive net) (x : ℕ → ℕ → Date) (least : IsLeastUnder net inputs_at_zero x)
    (r : EndlessRow) (row : IsEndlessRow net r) (past turn rise fall : ℕ) (s : IsCommonPeriodOf x r past turn rise fall) where
  abbrev z : ℕ → ℕ
  z k = least_number net ends live x least r.transition.index k

  goes_on : GoOn z (due_number r) past turn rise fall
  goes_on = record {
    some = s.some;
    dates = λ k l. (
        let here : x r.transition.index k ≡ At (pos (z k)) = date_is net ends live x least r.transition.index k row.in_range (omega arith) in
        ap number_of (s.dates_rise k l ∙ ap (move (pos rise)) here) ∙ moved (z k) rise
        );
    dues = λ k l. (
        let far = s.past_list in
        let there : k + turn ≡ k + s.rounds * r.every = ap (λ (n : ℕ). k + n) s.by_list in
        ap (due_number r) there ∙ (on_by (due_number r) past r.every r.gap (λ j m. due_again net r row j (omega arith)) s.rounds k l ∙ ap (λ (n : ℕ). due_number r k + n) (sym s.fall_is))
        );
  }

  kept : NoneLateTo x r (past + turn) → (k : ℕ) → 1 ≤ k → k ≤ past + turn → z k ≤ due_number r k
  kept none k one l =
      ⊎_elim
      (λ (late : due_number r k < z k). absurd (none k (due_number r k) (z k) l (late_from net ends live x least r row k one late)))
      (λ (not : z k ≤ due_number r k). not)
      (cases_lt (due_number r k) (z k))

  pub none_at_all : NoneLateTo x r (past + turn) → rise ≤ fall → NoneLate x r
  none_at_all none slow k due date late =
      let never = never_late z (due_number r) past turn rise fall goes_on (kept none) slow k late.from_one in
      let here = late_to net ends live x least r k due date late in
      absurd (omega arith)

  fewest : (gain base : ℕ) → IsSoonest x r past (past + turn) gain base (due_number r base) (z base) → IsFewest z (due_number r) past turn gain base
  fewest gain base h = record {
    above = h.above;
    within = h.within;
    fewest = λ k l m. h.soonest k (due_number r k) (z k) l m (due_is r k) (date_is net ends live x least r.transition.index k row.in_range (omega arith));
  }

  least_of : (gain base : ℕ) → NoneLateTo x r (past + turn) → 0 < gain → rise ≡ fall + gain → IsSoonest x r past (past + turn) gain base (due_number r base) (z base)
      → (let turns : ℕ = turns_to (due_number r base) (z base) gain in IsLeastLate x r (base + turns * turn) (due_number r base + turns * fall) (z base + turns * rise))
  least_of gain base none some e h =
      let turns : ℕ = turns_to (due_number r base) (z base) gain in
      let first : IsFirstOver z (due_number r) (base + turns * turn) = first_late z (due_number r) past turn rise fall gain base goes_on some e (kept none) (fewest gain base h) in
      let above = h.above in
      let dates : z (base + turns * turn) ≡ z base + turns * rise = on_by z past turn rise goes_on.dates turns base above in
      let dues : due_number r (base + turns * turn) ≡ due_number r base + turns * fall = on_by (due_number r) past turn fall goes_on.dues turns base above in
      let late : IsLateAt x r (base + turns * turn) (due_number r (base + turns * turn)) (z (base + turns * turn)) =
      late_from net ends live x least r row (base + turns * turn) (omega arith) first.late in
      record {
        late = subst (λ n. IsLateAt x r (base + turns * turn) n (z base + turns * rise)) dues (subst (IsLateAt x r (base + turns * turn) (due_number r (base + turns * turn))) dates late);
        first = λ j d y l. first.first j l.from_one (late_to net ends live x least r j d y l);
      }

  pub least_late : (gain base due date : ℕ) → NoneLateTo x r (past + turn) → 0 < gain → rise ≡ fall + gain → IsSoonest x r past (past + turn) gain base due date
      → IsLeastLate x r (base + turns_to due date gain * turn) (due + turns_to due date gain * fall) (date + turns_to due date gain * rise)
  least_late gain base due date none some e h =
      let one : due_number r base ≡ due = sym (due_only r base due h.is_due) in
      let two : z base ≡ date = ap number_of h.comes in
      let own : IsSoonest x r past (past + turn) gain base (due_number r base) (z base) =
      subst (λ n. IsSoonest x r past (past + turn) gain base n (z base)) (sym one) (subst (IsSoonest x r past (past + turn) gain base due) (sym two) h) in
      subst (λ n. IsLeastLate x r (base + turns_to n date gain * turn) (n + turns_to n date gain * fall) (date + turns_to n date gain * rise)) one
      (subst (λ n. IsLeastLate x r (base + turns_to (due_number r base) n gain * turn)
      (due_number r base + turns_to (due_number r base) n gain * fall) (n + turns_to (due_number r base) n gain * rise)) two
      (least_of gain base none some e own))

pub turns_tell : TurnsTellLate
turns_tell net ends live x least r row past turn rise fall s none = (
  none_at_all net ends live x least r row past turn rise fall s none,
  λ gain base due date some e h. least_late net ends live x least r row past turn rise fall s gain base due date none some e h,
)

-- ---- steps

rises_on : (net : NetLists) (ends : HasEndsInRange net) (live : IsLive net) (x : ℕ → ℕ → Date) (least : IsLeastUnder net inputs_at_zero x) (t k m : ℕ) → t < length net.transitions → 1 ≤ k
    → least_number net ends live x least t k ≤ least_number net ends live x least t (k + m)
rises_on net ends live x least t k zero l one = let e : k + 0 ≡ k = omega arith in rw e (omega arith)
rises_on net ends live x least t k (suc m) l one =
    let e : k + suc m ≡ k + m + 1 = omega arith in
    let old = rises_on net ends live x least t k m l one in
    let here = date_is net ends live x least t (k + m) l (omega arith) in
    let there = date_is net ends live x least t (k + m + 1) l (omega arith) in
    let next = at_most_numbers (least_number net ends live x least t (k + m)) (least_number net ends live x least t (k + m + 1))
    (subst (λ d. IsAtMostDate (At (pos (least_number net ends live x least t (k + m)))) d) there
    (subst (λ d. IsAtMostDate d (x t (k + m + 1))) here (dates_climb net inputs_at_zero x least.feasible t (k + m) l (omega arith)))) in
    rw e (omega arith)

step_between : (a b : ℕ) (s : ℤ) → a ≤ b → At (pos b) ≡ move s (At (pos a)) → s ≡ pos (b - a)
step_between a b s l e = let same : pos b ≡ pos a +ℤ s = at_inj (pos b) (pos a +ℤ s) e in omega (arith, ints)

pub steps_from_zero : StepsAreFromZero
steps_from_zero net ends live x least f stands t l =
    let z : ℕ → ℕ = least_number net ends live x least t in
    let k : ℕ = f.after + 1 in
    let here = date_is net ends live x least t k l (omega arith) in
    let there = date_is net ends live x least t (k + f.period) l (omega arith) in
    let again = stands.repeats.again t k l (omega arith) in (
      z (k + f.period) - z k,
      step_between (z k) (z (k + f.period)) (step_of_form f t) (rises_on net ends live x least t k f.period l (omega arith)) (sym there ∙ (again ∙ ap (move (step_of_form f t)) here)),
    )
