-- Where a walk starts: behind the rate, or with an input list that keeps up with it.
use Rattle.std.proofs.Common.{ℕ, zero, suc, ◌+◌, ◌-◌, ◌*◌, ◌<◌, ◌≤◌, ◌≡◌, ◌≢◌, ◌⊎◌, Option, Some, None, length, get_or, refl, sym, ap, subst, ◌∙◌, arith, inl, inr, ⊎_elim}
use Rattle.std.specs.Prelude.{pos, negsuc, All, Contains}
use Rattle.std.proofs.lemmas.Bool.{cases_lt}
use Rattle.std.proofs.lemmas.Int.{ints}
use Rattle.bound_laws.specs.dioid.declared.dates.Date.{Date}
use Rattle.bound_laws.specs.dioid.declared.dates.Date.TheVariants.{Early, At, Never}
use Rattle.bound_laws.specs.dioid.Dates.{IsAtMostDate, later_of, delayed}
use Rattle.periodic_laws.proofs.dioid_proofs.DateOrder.{at_most_is, at_most_trans, later_either, later_left}
use Rattle.bound_laws.specs.teg_net.declared.entries.Again.{Again}
use Rattle.bound_laws.specs.teg_net.declared.entries.InputList.{InputList}
use Rattle.bound_laws.specs.teg_net.Nets.{NetLists, IsInput, HasListsOfInputs, HasListsByRule, ListGoesOn}
use Rattle.bound_laws.specs.teg_net.Inputs.{moved_by, IsInputDates, input_date}
use Rattle.bound_laws.specs.teg_net.Parts.{Reaches}
use Rattle.bound_laws.specs.teg_net.ReadyDates.{start_date}
use Rattle.bound_laws.proofs.teg_net_proofs.Bounds.{date_bound, ready_bounded}
use Rattle.bound_laws.proofs.teg_net_proofs.InputDates.{dates_by_lists}
use Rattle.bound_laws.proofs.teg_net_proofs.StartDates.{start_date-within}
use Rattle.bound_laws.specs.teg_model.Datings.{listed_releases, at_input}
use Rattle.bound_laws.specs.teg_model.Starts.{start_of_firing}
use Rattle.growth_laws.proofs.teg_model_proofs.OfNet.{input_or_not}
use Rattle.slope_laws.specs.Slopes.{IsGoingOnTowards}
use Rattle.slope_laws.proofs.EndedLists.{rule_in, dates_by_list, goes_past, rule_of, again_or_not, ends_past, list_or_none, le_or_lt, some_is, IsSomeDate}
use Rattle.slope_laws.proofs.Starts.{Behind, early_behind, share_on, date_given, same_number, dated_within}

-- the start is a date of a list past its end, and the list keeps up with the rate step / nu
pub record IsListStart (net : NetLists) (b nu step c s date : ℕ) : Type 0 where
  pub list : InputList
  pub again : Again
  pub towards : IsGoingOnTowards net b list again
  pub here : list.transition.index ≡ c
  pub past : length list.dates < s
  pub keeps_up : step * again.every ≤ nu * again.gap
  pub given : input_date net list.transition.index s ≡ Some date

-- an input with a list
list_start : (net : NetLists) → HasListsOfInputs net → HasListsByRule net → (b nu step c s date : ℕ) (l : InputList) → 1 ≤ step → 1 ≤ s → Contains net.inputs l
    → Reaches net l.transition.index b → l.transition.index ≡ c → input_date net l.transition.index s ≡ Some date
    → Behind (date_bound net) nu step s date ⊎ IsListStart net b nu step c s date
list_start net inputs rules b nu step c s date l s1 o has reaches here given =
    let u : ℕ → Option ℕ = input_date net l.transition.index in
    let given_by = dates_by_list net l inputs rules has in
    let within = dated_within net l has in
    let long : ℕ = length l.dates in
    ⊎_elim
    (λ (q : s ≤ long).
    let is : date ≡ get_or l.dates (s - 1) 0 = some_is date (get_or l.dates (s - 1) 0) (sym given ∙ given_by.listed s o q) in
    inl (early_behind (date_bound net) nu step s date s1 (rw is (within (s - 1) 0 (omega arith)))))
    (λ (q : long < s).
    ⊎_elim
    (λ (e : l.again ≡ None). absurd (subst IsSomeDate (sym (sym (ends_past long l.again u e given_by.past s q) ∙ given)) tt))
    (λ (e : (g : Again) × (l.again ≡ Some g)).
    let g : ListGoesOn l.dates e.0 = rule_of l.dates l.again e.0 e.1 (rule_in net l rules has) in
    ⊎_elim
    (λ (slow : nu * e.0.gap < step * e.0.every). inl (share_on l e.0 u (date_bound net) nu step s1 given_by e.1 g within slow (suc s) s date (omega arith) o given))
    (λ (up : step * e.0.every ≤ nu * e.0.gap).
    inr (record {
      list = l;
      again = e.0;
      towards = record { of_net = has; goes_on = e.1; reaches = reaches };
      here = here;
      past = q;
      keeps_up = up;
      given = given;
    }))
    (cases_lt (nu * e.0.gap) (step * e.0.every)))
    (again_or_not l.again))
    (le_or_lt s long)

-- the release of an input
release_start : (net : NetLists) → HasListsOfInputs net → HasListsByRule net → (b nu step c s date : ℕ) → 1 ≤ step → 1 ≤ s → Reaches net c b → input_date net c s ≡ Some date
    → Behind (date_bound net) nu step s date ⊎ IsListStart net b nu step c s date
release_start net inputs rules b nu step c s date s1 o reaches given =
    ⊎_elim
    (λ (f : (l : InputList) × Contains net.inputs l × (l.transition.index ≡ c)).
    list_start net inputs rules b nu step c s date f.0 s1 o f.1 (subst (λ z. Reaches net z b) (sym f.2) reaches) f.2 (subst (λ z. input_date net z s ≡ Some date) (sym f.2) given))
    (λ (f : All (λ x. x.transition.index ≢ c) net.inputs).
    let is : date ≡ 0 = some_is date 0 (sym given ∙ (dates_by_lists net c inputs.one_list rules).no_list f s) in
    inl (early_behind (date_bound net) nu step s date s1 (omega (arith, is))))
    (list_or_none net.inputs c)

-- the start of a firing is a ready date, or 0, or the release of an input
pub start_behind_or : (net : NetLists) → HasListsOfInputs net → HasListsByRule net → (b nu step : ℕ) → 1 ≤ step → (c s date : ℕ) → 1 ≤ s → Reaches net c b
    → start_of_firing net (listed_releases net) c s ≡ At (pos date) → Behind (date_bound net) nu step s date ⊎ IsListStart net b nu step c s date
start_behind_or net inputs rules b nu step s1 c s date o reaches start =
    let ready : ℕ = start_date net c s in
    let release : Date = at_input net c (listed_releases net c s) Early in
    ⊎_elim
    (λ (e : later_of (At (pos ready)) release ≡ At (pos ready)).
    let is : ready ≡ date = same_number ready date (sym e ∙ start) in
    inl (early_behind (date_bound net) nu step s date s1 (omega (arith, is, start_date-within net c s (date_bound net) (ready_bounded net)))))
    (λ (e : later_of (At (pos ready)) release ≡ release).
    ⊎_elim
    (λ (i : IsInput net c × (release ≡ listed_releases net c s)).
    release_start net inputs rules b nu step c s date s1 o reaches (date_given (input_date net c s) date (sym i.1 ∙ (sym e ∙ start))))
    (λ (i : (release ≡ Early) × (release ≡ Early)).
    absurd (at_most_is (At (pos date)) Early (sym start ∙ (e ∙ i.0))))
    (input_or_not net c (listed_releases net c s) Early Early))
    (later_either (At (pos ready)) release)

-- past its end a list goes on by its gap in each `every` firings
pub list_on : (l : InputList) (again : Again) (u : ℕ → Option ℕ) → IsInputDates l u → l.again ≡ Some again → (m s v : ℕ)
    → length l.dates < s → u s ≡ Some v → u (s + m * again.every) ≡ Some (v + m * again.gap)
list_on l again u h e zero s v far is =
    let one : s + 0 * again.every ≡ s = omega arith in
    let two : v ≡ v + 0 * again.gap = omega arith in
    ap u one ∙ is ∙ ap (λ z. Some z) two
list_on l again u h e (suc m) s v far is =
    let before : ℕ = s + m * again.every in
    let more : s + suc m * again.every ≡ before + again.every = grind arith in
    let back : (before + again.every) - again.every ≡ before = omega arith in
    let rise : (v + m * again.gap) + again.gap ≡ v + suc m * again.gap = grind arith in
    ap u more ∙ goes_past (length l.dates) l.again again u e h.past (before + again.every) (omega (arith, far))
    ∙ ap (λ z. moved_by again.gap (u z)) back ∙ ap (moved_by again.gap) (list_on l again u h e m s v far is) ∙ ap (λ z. Some z) rise

-- a start that is not before 0 and leads to a number is a number
pub record IsNumberStart (start : Date) (time date : ℕ) : Type 0 where
  pub at : ℕ
  pub is : start ≡ At (pos at)
  pub sum : date ≡ at + time

number_start : (start : Date) (time date : ℕ) → IsAtMostDate (At (pos 0)) start → delayed time start ≡ At (pos date) → IsNumberStart start time date
number_start Early time date l e = absurd l
number_start (At (pos z)) time date l e =
    let low = at_most_is (delayed time (At (pos z))) (At (pos date)) e in
    let high = at_most_is (At (pos date)) (delayed time (At (pos z))) (sym e) in
    record { at = z; is = refl; sum = omega (arith, ints, low, high) }
number_start (At (negsuc z)) time date l e = absurd (omega (arith, ints, l))
number_start Never time date l e = absurd (at_most_is Never (At (pos date)) e)

from_zero : (net : NetLists) (u : ℕ → ℕ → Date) (c s : ℕ) → IsAtMostDate (At (pos 0)) (start_of_firing net u c s)
from_zero net u c s =
    at_most_trans (At (pos 0)) (At (pos (start_date net c s))) (start_of_firing net u c s) (omega (arith, ints)) (later_left (At (pos (start_date net c s))) (at_input net c (u c s) Early))

pub start_number : (net : NetLists) (c s time date : ℕ) → delayed time (start_of_firing net (listed_releases net) c s) ≡ At (pos date)
    → IsNumberStart (start_of_firing net (listed_releases net) c s) time date
start_number net c s time date e = number_start (start_of_firing net (listed_releases net) c s) time date (from_zero net (listed_releases net) c s) e
