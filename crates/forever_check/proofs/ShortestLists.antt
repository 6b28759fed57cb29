-- Dates of a list that go on in no fewer firings, and past no smaller number.
use Rattle.std.proofs.Common.{ℕ, ℤ, suc, ◌+◌, ◌-◌, ◌%◌, ◌<◌, ◌≤◌, ◌≡◌, List, Option, Some, None, length, refl, sym, ap, subst, ◌∙◌, arith}
use Rattle.std.specs.Prelude.{pos, ◌+ℤ◌}
use Rattle.std.proofs.lemmas.Int.{ints}
use Rattle.std.proofs.lemmas.Nat.Gcd.{le_of_dvd, mod-eq-zero_of_dvd}
use Rattle.dioid.specs.declared.dates.Date.{Date}
use Rattle.dioid.specs.declared.dates.Date.TheVariants.{Early, At, Never}
use Rattle.dioid.specs.Dates.{move}
use Rattle.teg_net.specs.declared.entries.Again.{Again}
use Rattle.teg_net.specs.declared.entries.InputList.{InputList}
use Rattle.teg_net.specs.Inputs.{GoOnBy, list_date, moved_by}
use Rattle.teg_net.specs.Nets.{ListGoesOn}
use Rattle.teg_net.proofs.InputDates.{IsInputDates-list_date}
use Rattle.teg_model.specs.Datings.{as_date}
use Rattle.settled_laws.specs.SettledForms.{RepeatsAfter}
use Rattle.settled_laws.proofs.Repeating.{HasPeriod, HasCommon, gcd_period, period_least, after_least}
use Rattle.forever_check.specs.ShownReleases.{IsShortestList, IsShortestOf}
use Rattle.forever_check.specs.ReleaseWalks.{GoesOnIn, IsShortestIn, going_release}

moved : (gap : ℕ) (o : Option ℕ) → as_date (moved_by gap o) ≡ move (pos gap) (as_date o)
moved gap None = refl
moved gap (Some d) = ap At (omega (arith, ints))

module _ (dates : List ℕ) (a : Again) (on : ListGoesOn dates a) where
  -- where the dates go on, each is that of `every` firings before, moved by the gap
  pub round_on : (k : ℕ) → length dates < k + a.every → going_release dates a (k + a.every) ≡ move (pos a.gap) (going_release dates a k)
  round_on k l =
      let dated : ℕ → Option ℕ = list_date dates (Some a) in
      let list : InputList = record { transition = record { index = 0 }; dates = dates; again = Some a } in
      let past : GoOnBy (length dates) (Some a) dated = (IsInputDates-list_date list on).past in
      let back : k + a.every - a.every ≡ k = omega arith in
      ap as_date (past (k + a.every) l ∙ ap (λ (n : ℕ). moved_by a.gap (dated n)) back) ∙ moved a.gap (dated k)

  abbrev x : ℕ → ℕ → Date
  x t k = going_release dates a k

  abbrev start : ℕ
  start = length dates - a.every

  repeats : RepeatsAfter 1 x start a.every (λ t. pos a.gap)
  repeats = record { at_least_one = on.some; again = λ t k l m. round_on k (let e = on.enough in omega arith) }

  abbrev NoLess : Type 0
  NoLess = (by : ℕ) → 1 ≤ by → by < a.every → a.every % by ≡ 0 → GoesOnIn dates a start by → ⊥

  none_less : NoLess → (p : ℕ) (s : ℕ → ℤ) → p < a.every → RepeatsAfter 1 x start p s → ⊥
  none_less none p s less r =
      let one = r.at_least_one in
      let g : HasCommon 1 x start p a.every =
      gcd_period 1 x start (suc (p + a.every)) p a.every (omega arith) (record { step = s; repeats = r }) (record { step = λ t. pos a.gap; repeats = repeats }) in
      let form : HasPeriod 1 x start g.gcd = g.form in
      let low : g.gcd ≤ p = le_of_dvd (omega arith) g.is_gcd.0 in
      none g.gcd form.repeats.at_least_one (omega arith) (mod-eq-zero_of_dvd g.gcd {n = a.every} g.is_gcd.1)
      (form.step 0, λ k m. form.repeats.again 0 k (omega arith) m)

  pub shortest_in : (1 ≤ start → going_release dates a (start + a.every) ≡ move (pos a.gap) (going_release dates a start) → ⊥) → NoLess → IsShortestIn dates a
  shortest_in first none past every one g =
      let r : RepeatsAfter 1 x past every (λ t. g.0) = record { at_least_one = one; again = λ t k l m. g.1 k m } in
      let low : start ≤ past = after_least 1 x start a.every (λ t. pos a.gap) repeats (λ o all. first o (all 0 (omega arith))) past every (λ t. g.0) r in (
        period_least 1 x start a.every (λ t. pos a.gap) repeats (none_less none) past every (λ t. g.0) r,
        omega arith,
      )

-- so the list is the shortest
pub shortest_list : (l : InputList) (a : Again) → l.again ≡ Some a → IsShortestIn l.dates a → IsShortestList l
shortest_list l a e h =
    subst (IsShortestOf l) (sym e) (λ past every r. h past every r.some (
      r.step,
      λ k m. subst (λ (o : Option Again). as_date (list_date l.dates o (k + every)) ≡ move r.step (as_date (list_date l.dates o k))) e (r.again k m),
    ))

abbrev number_of : Date → ℤ
number_of Early = pos 0
number_of (At z) = z
number_of Never = pos 0

-- by how much the second of two dates comes later
pub rise_is : (step : ℤ) (d e : Date) (m n : ℕ) → d ≡ At (pos m) → e ≡ At (pos n) → e ≡ move step d → pos n ≡ pos m +ℤ step
rise_is step d e m n at there h = ap number_of (sym there ∙ (h ∙ ap (move step) at))

pub same_rise : (step : ℤ) (m n i j : ℕ) → pos n ≡ pos m +ℤ step → pos j ≡ pos i +ℤ step → j + m ≡ n + i
same_rise step m n i j h g = omega (arith, ints, h, g)
