-- Where walks start, the starts fall behind the step, or an input list keeps up with it.
use Rattle.std.proofs.Common.{ℕ, zero, suc, ◌+◌, ◌-◌, ◌*◌, ◌<◌, ◌≤◌, ◌≡◌, ◌≢◌, ◌⊎◌, Option, Some, None, length, get_or, sym, ap, subst, ◌∙◌, arith, inl, inr, ⊎_elim}
use Rattle.std.specs.Prelude.{pos, All, Contains}
use Rattle.std.proofs.lemmas.Bool.{cases_lt}
use Rattle.std.proofs.lemmas.Int.{ints}
use Rattle.settled_laws.specs.dioid.declared.dates.Date.{Date}
use Rattle.settled_laws.specs.dioid.declared.dates.Date.TheVariants.{Early, At, Never}
use Rattle.settled_laws.specs.dioid.Dates.{later_of}
use Rattle.settled_laws.proofs.dioid_proofs.DateOrder.{at_most_is, later_either}
use Rattle.settled_laws.specs.teg_net.declared.entries.Again.{Again}
use Rattle.settled_laws.specs.teg_net.declared.entries.InputList.{InputList}
use Rattle.settled_laws.specs.teg_net.Limits.{greatest_every, most_input_dates}
use Rattle.settled_laws.specs.teg_net.Nets.{NetLists, IsInput, HasListsOfInputs, HasListsByRule, ListGoesOn}
use Rattle.settled_laws.specs.teg_net.Inputs.{IsInputDates, input_date}
use Rattle.settled_laws.specs.teg_net.Parts.{Reaches}
use Rattle.settled_laws.specs.teg_net.ReadyDates.{start_date}
use Rattle.settled_laws.proofs.teg_net_proofs.Bounds.{date_bound, listed_bounded, ready_bounded}
use Rattle.settled_laws.proofs.teg_net_proofs.InputDates.{dates_by_lists}
use Rattle.settled_laws.proofs.teg_net_proofs.StartDates.{start_date-within}
use Rattle.settled_laws.specs.teg_model.Datings.{listed_releases, as_date, at_input}
use Rattle.settled_laws.specs.teg_model.Starts.{start_of_firing}
use Rattle.settled_laws.proofs.teg_model_proofs.OfNet.{input_or_not}
use Rattle.slope_laws.specs.Slopes.{IsGoingOnTowards}
use Rattle.slope_laws.proofs.Sums.{times_add, times_le, more_of}
use Rattle.slope_laws.proofs.EndedLists.{rule_in, dates_by_list, goes_past, rule_of, again_or_not, ends_past, list_or_none, le_or_lt, some_is, IsSomeDate, moved_from}

-- a start is so many firings behind the step, where no listed date and no ready date is later than `last`
abbrev pub Behind : ℕ → ℕ → ℕ → ℕ → ℕ → Type 0
Behind last nu step s date = s + greatest_every * (nu * date) ≤ greatest_every * (step * s) + (most_input_dates + greatest_every * (nu * last))

-- a list towards b that keeps up with the step
abbrev pub KeepsUp : NetLists → ℕ → ℕ → ℕ → Type 0
KeepsUp net b nu step = (l : InputList) × (again : Again) × IsGoingOnTowards net b l again × (step * again.every ≤ nu * again.gap)

-- a start at such a date falls behind
pub early_behind : (last nu step s date : ℕ) → 1 ≤ step → date ≤ last → Behind last nu step s date
early_behind last nu step s date s1 d =
    let one = times_le nu date last d in
    let own : step * s ≡ s + (step - 1) * s = more_of step s s1 in
    omega (arith, one, own)

-- a list that goes on more slowly falls behind
pub share_on : (l : InputList) (again : Again) (u : ℕ → Option ℕ) (last nu step : ℕ) → 1 ≤ step → IsInputDates l u → l.again ≡ Some again
    → ListGoesOn l.dates again → All (λ d. d ≤ last) l.dates → nu * again.gap < step * again.every
    → (n s v : ℕ) → s < n → 1 ≤ s → u s ≡ Some v → Behind last nu step s v
share_on l again u last nu step s1 h e g small slow zero s v m o is = absurd (omega arith)
share_on l again u last nu step s1 h e g small slow (suc n) s v m o is =
    let long : ℕ = length l.dates in
    ⊎_elim
    (λ (q : s ≤ long).
    let date : v ≡ get_or l.dates (s - 1) 0 = some_is v (get_or l.dates (s - 1) 0) (sym is ∙ h.listed s o q) in
    early_behind last nu step s v s1 (rw date (small (s - 1) 0 (omega arith))))
    (λ (q : long < s).
    let before : ℕ = s - again.every in
    let from = moved_from again.gap v (u before) (sym (goes_past long l.again again u e h.past s q) ∙ is) in
    let w : ℕ = from.0 in
    let rest = share_on l again u last nu step s1 h e g small slow n before w (omega (arith, g.some, g.enough)) (omega (arith, g.enough)) from.1 in
    let s_is : s ≡ before + again.every = omega (arith, g.enough) in
    let wide : step * s ≡ step * before + step * again.every = ap (λ z. step * z) s_is ∙ times_add step before again.every in
    let high : nu * v ≡ nu * w + nu * again.gap = ap (λ z. nu * z) from.2 ∙ times_add nu w again.gap in
    let each = g.every_in in
    omega (arith, rest, s_is, wide, high, slow, each))
    (le_or_lt s long)

pub date_given : (o : Option ℕ) (d : ℕ) → as_date o ≡ At (pos d) → o ≡ Some d
date_given None d e = absurd (at_most_is Never (At (pos d)) e)
date_given (Some c) d e =
    let is : c ≡ d = omega (arith, ints, at_most_is (At (pos c)) (At (pos d)) e, at_most_is (At (pos d)) (At (pos c)) (sym e)) in
    ap (λ z. Some z) is

pub same_number : (m n : ℕ) → At (pos m) ≡ At (pos n) → m ≡ n
same_number m n e = omega (arith, ints, at_most_is (At (pos m)) (At (pos n)) e, at_most_is (At (pos n)) (At (pos m)) (sym e))

-- no date of the list is later
pub dated_within : (net : NetLists) (l : InputList) → Contains net.inputs l → All (λ d. d ≤ date_bound net) l.dates
dated_within net l has = subst (λ (z : InputList). All (λ d. d ≤ date_bound net) z.dates) has.2 (listed_bounded net has.0 l has.1)

module _ (net : NetLists) (inputs : HasListsOfInputs net) (rules : HasListsByRule net) where
  -- an input with a list
  list_start : (b nu step s date : ℕ) (l : InputList) → 1 ≤ step → 1 ≤ s → Contains net.inputs l
      → Reaches net l.transition.index b → input_date net l.transition.index s ≡ Some date
      → Behind (date_bound net) nu step s date ⊎ KeepsUp net b nu step
  list_start b nu step s date l s1 o has reaches given =
      let u : ℕ → Option ℕ = input_date net l.transition.index in
      let rule = rule_in net l rules has in
      let given_by = dates_by_list net l inputs rules has in
      let within : All (λ d. d ≤ date_bound net) l.dates = dated_within net l has in
      let long : ℕ = length l.dates in
      ⊎_elim
      (λ (e : l.again ≡ None).
      ⊎_elim
      (λ (q : s ≤ long).
      let is : date ≡ get_or l.dates (s - 1) 0 = some_is date (get_or l.dates (s - 1) 0) (sym given ∙ given_by.listed s o q) in
      inl (early_behind (date_bound net) nu step s date s1 (rw is (within (s - 1) 0 (omega arith)))))
      (λ (q : long < s). absurd (subst IsSomeDate (sym (sym (ends_past long l.again u e given_by.past s q) ∙ given)) tt))
      (le_or_lt s long))
      (λ (e : (g : Again) × (l.again ≡ Some g)).
      let g : ListGoesOn l.dates e.0 = rule_of l.dates l.again e.0 e.1 rule in
      ⊎_elim
      (λ (slow : nu * e.0.gap < step * e.0.every). inl (share_on l e.0 u (date_bound net) nu step s1 given_by e.1 g within slow (suc s) s date (omega arith) o given))
      (λ (up : step * e.0.every ≤ nu * e.0.gap). inr (l, e.0, record { of_net = has; goes_on = e.1; reaches = reaches }, up))
      (cases_lt (nu * e.0.gap) (step * e.0.every)))
      (again_or_not l.again)

  -- the release of an input
  release_start : (b nu step a s date : ℕ) → 1 ≤ step → 1 ≤ s → Reaches net a b → input_date net a s ≡ Some date → Behind (date_bound net) nu step s date ⊎ KeepsUp net b nu step
  release_start b nu step a s date s1 o reaches given =
      ⊎_elim
      (λ (f : (l : InputList) × Contains net.inputs l × (l.transition.index ≡ a)).
      list_start b nu step s date f.0 s1 o f.1 (subst (λ z. Reaches net z b) (sym f.2) reaches) (subst (λ z. input_date net z s ≡ Some date) (sym f.2) given))
      (λ (f : All (λ x. x.transition.index ≢ a) net.inputs).
      let is : date ≡ 0 = some_is date 0 (sym given ∙ (dates_by_lists net a inputs.one_list rules).no_list f s) in
      inl (early_behind (date_bound net) nu step s date s1 (omega (arith, is))))
      (list_or_none net.inputs a)

  -- the start of a firing is a ready date, or 0, or the release of an input
  pub start_behind : (b nu step : ℕ) → 1 ≤ step → (a s date : ℕ) → 1 ≤ s → Reaches net a b
      → start_of_firing net (listed_releases net) a s ≡ At (pos date) → Behind (date_bound net) nu step s date ⊎ KeepsUp net b nu step
  start_behind b nu step s1 a s date o reaches start =
      let first : ℕ = start_date net a s in
      let release : Date = at_input net a (listed_releases net a s) Early in
      ⊎_elim
      (λ (e : later_of (At (pos first)) release ≡ At (pos first)).
      let is : first ≡ date = same_number first date (sym e ∙ start) in
      inl (early_behind (date_bound net) nu step s date s1 (omega (arith, is, start_date-within net a s (date_bound net) (ready_bounded net)))))
      (λ (e : later_of (At (pos first)) release ≡ release).
      ⊎_elim
      (λ (i : IsInput net a × (release ≡ listed_releases net a s)).
      release_start b nu step a s date s1 o reaches (date_given (input_date net a s) date (sym i.1 ∙ (sym e ∙ start))))
      (λ (i : (release ≡ Early) × (release ≡ Early)).
      absurd (at_most_is (At (pos date)) Early (sym start ∙ (e ∙ i.0))))
      (input_or_not net a (listed_releases net a s) Early Early))
      (later_either (At (pos first)) release)
