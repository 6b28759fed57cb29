-- Input lists as gains: their dates never fall, and repeat past some shift.
use Rattle.std.proofs.Common.{◌≡◌, refl, ap, arith, ℕ, ℤ, pos, ◌+◌, ◌-◌, ◌≤◌, ◌<◌, sym, ◌∙◌, ⊎_elim, List, length, Option, Some, None}
use Rattle.std.specs.Prelude.{slice_get, slice_index}
use Rattle.std.specs.List.Sorted.{IsNonDecreasing}
use Rattle.std.proofs.lemmas.Int.{ints}
use Rattle.std.proofs.lemmas.Bool.{cases_lt}
use Rattle.series_ops.specs.dioid.declared.dates.Date.{Date}
use Rattle.series_ops.specs.dioid.declared.dates.Date.TheVariants.{Early, At, Never}
use Rattle.series_ops.specs.dioid.DateOrder.{Le}
use Rattle.series_ops.specs.dioid.Dates.{move}
use Rattle.series_ops.proofs.dioid_proofs.AtMost.{le_refl, le_is, le_trans, le_never, move_le}
use Rattle.series_ops.proofs.dioid_proofs.Moves.{move_zero}
use Rattle.series_ops.specs.series_laws.Periodic.{Rising, Repeats}
use Rattle.series_ops.proofs.series_laws_proofs.Repeating.{rising_by_one, by_steps}
use Rattle.series_ops.specs.series_laws.SeriesForms.{canonical_of}
use Rattle.series_ops.proofs.series_laws_proofs.Canonical.{canonical_is, canonical_values}
use Rattle.series_ops.specs.Gains.{gain_of}
use Rattle.settled_laws.specs.teg_net.declared.entries.Again.{Again}
use Rattle.settled_laws.specs.teg_net.declared.entries.InputList.{InputList}
use Rattle.settled_laws.specs.teg_net.declared.entries.Role.{Role}
use Rattle.settled_laws.specs.teg_net.declared.entries.Role.TheVariants.{Internal, Input, Output}
use Rattle.settled_laws.specs.teg_net.declared.entries.Transition.{Transition}
use Rattle.settled_laws.specs.teg_net.Nets.{NetLists, HasRisingLists, HasListsByRule, ListGoesOn, EndsOrGoesOn}
use Rattle.settled_laws.specs.teg_net.Inputs.{moved_by, IsInputDates, list_date, date_by_list, list_of_input}
use Rattle.settled_laws.proofs.teg_net_proofs.InputDates.{IsInputDates-list_date, found_has}
use Rattle.settled_laws.specs.teg_model.Datings.{as_date, listed_releases, by_role, by_transition, at_input}
use Rattle.periodic_laws.specs.GainColumns.{turn_of_list, begin_of_list, period_of_list, begin_of, release_gain}
use Rattle.periodic_laws.proofs.Values.{Holds}

-- a function that never falls and repeats
pub record RisesAndRepeats (f : ℕ → Date) (p n : ℕ) : Type 0 where
  pub rises : Rising f
  pub turns : 0 < n
  pub step : ℤ
  pub repeats : Repeats f p n step

pub periodic_holds : (f : ℕ → Date) (p n : ℕ) → RisesAndRepeats f p n → Holds (gain_of (canonical_of f p n)) f
periodic_holds f p n h = record { is = canonical_is f p n h.step h.rises h.turns h.repeats; values = canonical_values f p n h.step h.rises h.turns h.repeats }

constant_periodic : (d : Date) (p n : ℕ) → 0 < n → RisesAndRepeats (λ k. d) p n
constant_periodic d p n h = record { rises = record { rises = λ j k w. le_refl d }; turns = h; step = pos 0; repeats = record { at = λ k w. sym (move_zero d) } }

-- ---- one list

-- the date at shift k, which is that of firing k + 1
abbrev list_at : List ℕ → Option Again → ℕ → Date
list_at dates o k = as_date (list_date dates o (k + 1))

rules : (dates : List ℕ) (o : Option Again) → EndsOrGoesOn dates o → IsInputDates (record { transition = record { index = 0 }; dates = dates; again = o }) (list_date dates o)
rules dates o h = IsInputDates-list_date (record { transition = record { index = 0 }; dates = dates; again = o }) h

in_list : (dates : List ℕ) (o : Option Again) → EndsOrGoesOn dates o → (k : ℕ) → k < length dates → list_at dates o k ≡ At (pos (slice_index dates k))
in_list dates o h k l =
    let e : (k + 1) - 1 ≡ k = omega arith in
    ap as_date ((rules dates o h).listed (k + 1) (omega arith) (omega arith)) ∙ ap (λ (z : ℕ). At (pos (slice_index dates z))) e

past_end : (dates : List ℕ) (k : ℕ) → length dates ≤ k → list_at dates None k ≡ Never
past_end dates k l = ap as_date ((rules dates None tt).past (k + 1) (omega arith))

moved_date : (gap : ℕ) (o : Option ℕ) → as_date (moved_by gap o) ≡ move (pos gap) (as_date o)
moved_date gap None = refl
moved_date gap (Some d) = ap At (omega (arith, ints))

goes_on : (dates : List ℕ) (a : Again) → ListGoesOn dates a → (k : ℕ) → length dates ≤ k + a.every → list_at dates (Some a) (k + a.every) ≡ move (pos a.gap) (list_at dates (Some a) k)
goes_on dates a h k l =
    let back : (k + a.every + 1) - a.every ≡ k + 1 = omega arith in
    ap as_date ((rules dates (Some a) h).past (k + a.every + 1) (omega arith))
    ∙ moved_date a.gap (list_date dates (Some a) ((k + a.every + 1) - a.every)) ∙ ap (λ (z : ℕ). move (pos a.gap) (as_date (list_date dates (Some a) z))) back

in_order : (a b : ℕ) → a ≤ b → Le (At (pos a)) (At (pos b))
in_order a b h = record { holds = omega (arith, ints) }

list_climbs : (dates : List ℕ) (o : Option Again) → IsNonDecreasing dates → EndsOrGoesOn dates o → (j k : ℕ) → j ≤ k → k < length dates → Le (list_at dates o j) (list_at dates o k)
list_climbs dates o s h j k w l =
    let e = in_list dates o h j (omega arith) in
    let g = in_list dates o h k l in
    le_trans (le_is e) (le_trans (in_order (slice_index dates j) (slice_index dates k) (s j k 0 w l)) (le_is (sym g)))

ends_periodic : (dates : List ℕ) → IsNonDecreasing dates → RisesAndRepeats (list_at dates None) (length dates) 1
ends_periodic dates s = record {
  rises = record {
    rises = λ j k w. ⊎_elim
        (λ (l : k < length dates). list_climbs dates None s tt j k w l)
        (λ (l : length dates ≤ k). le_trans (le_never (list_at dates None j)) (le_is (sym (past_end dates k l))))
        (cases_lt k (length dates));
  };
  turns = omega arith;
  step = pos 0;
  repeats = record { at = λ k w. past_end dates (k + 1) (omega arith) ∙ ap (move (pos 0)) (sym (past_end dates k w)) };
}

goes_periodic : (dates : List ℕ) (a : Again) → IsNonDecreasing dates → ListGoesOn dates a → RisesAndRepeats (list_at dates (Some a)) (length dates - a.every) a.every
goes_periodic dates a s h = record {
  rises = rising_by_one (list_at dates (Some a)) climbs;
  turns = h.some;
  step = pos a.gap;
  repeats = record { at = λ k w. goes_on dates a h k (omega arith) };
} where
  some : 1 ≤ a.every
  some = h.some

  enough : a.every ≤ length dates
  enough = h.enough

  from : ℕ
  from = length dates - a.every

  u : ℕ → Date
  u = list_at dates (Some a)

  inside : (k : ℕ) → k + 1 < length dates → Le (list_at dates (Some a) k) (list_at dates (Some a) (k + 1))
  inside k l = list_climbs dates (Some a) s h k (k + 1) (omega arith) l

  joins : Le (list_at dates (Some a) (length dates - 1)) (list_at dates (Some a) (length dates - a.every + a.every))
  joins =
      let last = in_list dates (Some a) h (length dates - 1) (omega (arith, some, enough)) in
      let first = in_list dates (Some a) h (length dates - a.every) (omega (arith, some, enough)) in
      let next = goes_on dates a h (length dates - a.every) (omega (arith, some, enough)) in
      let rule : slice_index dates (length dates - 1) ≤ slice_index dates (length dates - a.every) + a.gap = h.joins in
      let value : Le (At (pos (slice_index dates (length dates - 1)))) (move (pos a.gap) (At (pos (slice_index dates (length dates - a.every))))) = record { holds = omega (arith, ints) } in
      le_trans (le_is last) (le_trans value (le_is (ap (move (pos a.gap)) (sym first) ∙ sym next)))

  base : (k : ℕ) → length dates - a.every ≤ k → k < length dates - a.every + a.every → Le (list_at dates (Some a) k) (list_at dates (Some a) (k + 1))
  base k l m = ⊎_elim
      (λ (i : k + 1 < length dates). inside k i)
      (λ (i : length dates ≤ k + 1).
      let here : k ≡ length dates - 1 = omega (arith, some, enough) in
      let there : length dates - a.every + a.every ≡ k + 1 = omega (arith, some, enough) in
      le_trans (le_is (ap (λ (z : ℕ). list_at dates (Some a) z) here)) (le_trans joins (le_is (ap (λ (z : ℕ). list_at dates (Some a) z) there))))
      (cases_lt (k + 1) (length dates))

  climbs : (k : ℕ) → Le (list_at dates (Some a) k) (list_at dates (Some a) (k + 1))
  climbs k = ⊎_elim
      (λ (l : k < length dates - a.every). inside k (omega (arith, some, enough)))
      (λ (l : length dates - a.every ≤ k).
      by_steps (λ (j : ℕ). Le (list_at dates (Some a) j) (list_at dates (Some a) (j + 1))) (length dates - a.every) a.every some base
      (λ j v p.
      let e : j + 1 + a.every ≡ j + a.every + 1 = omega arith in
      le_trans (le_is (goes_on dates a h j (omega arith))) (le_trans (move_le (pos a.gap) p)
      (le_is (sym (goes_on dates a h (j + 1) (omega arith)) ∙ ap (λ (z : ℕ). list_at dates (Some a) z) e))))
      k l)
      (cases_lt k (length dates - a.every))

list_periodic : (dates : List ℕ) (o : Option Again) → IsNonDecreasing dates → EndsOrGoesOn dates o → RisesAndRepeats (list_at dates o) (begin_of_list (length dates) o) (turn_of_list o)
list_periodic dates None s h = ends_periodic dates s
list_periodic dates (Some a) s h = goes_periodic dates a s h

-- ---- a transition of a net

found_periodic : (net : NetLists) (t : ℕ) (o : Option InputList) → HasRisingLists net → HasListsByRule net → o ≡ list_of_input net t → RisesAndRepeats (λ k. as_date (date_by_list o (k + 1))) (begin_of o) (period_of_list o)
found_periodic net t None rise rules e = constant_periodic (At (pos 0)) 0 1 (omega arith)
found_periodic net t (Some l) rise rules e =
    let own : IsNonDecreasing l.dates = found_has (λ z. IsNonDecreasing z.dates) net.inputs t l rise e in
    let rule : EndsOrGoesOn l.dates l.again = found_has (λ z. EndsOrGoesOn z.dates z.again) net.inputs t l rules e in
    list_periodic l.dates l.again own rule

role_periodic : (r : Role) (f : ℕ → Date) (p n : ℕ) → RisesAndRepeats f p n → RisesAndRepeats (λ k. by_role r (f k) Early) p n
role_periodic Internal f p n h = constant_periodic Early p n h.turns
role_periodic Output f p n h = constant_periodic Early p n h.turns
role_periodic Input f p n h = h

transition_periodic : (o : Option Transition) (f : ℕ → Date) (p n : ℕ) → RisesAndRepeats f p n → RisesAndRepeats (λ k. by_transition o (f k) Early) p n
transition_periodic None f p n h = constant_periodic Early p n h.turns
transition_periodic (Some t) f p n h = role_periodic t.role f p n h

-- the releases by the input lists are a gain
pub release_holds : (net : NetLists) → HasRisingLists net → HasListsByRule net → (t : ℕ) → Holds (release_gain net t) (λ k. at_input net t (listed_releases net t (k + 1)) Early)
unfolding release_gain
release_holds net rise rules t =
    let list : Option InputList = list_of_input net t in
    periodic_holds (λ k. at_input net t (listed_releases net t (k + 1)) Early) (begin_of list) (period_of_list list)
    (transition_periodic (slice_get net.transitions t) (λ k. listed_releases net t (k + 1)) (begin_of list) (period_of_list list) (found_periodic net t list rise rules refl))
