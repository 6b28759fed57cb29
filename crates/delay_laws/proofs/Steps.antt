-- Dates that stay near the plan go on by its steps, so delays come again.
use Rattle.std.proofs.Common.{ℕ, zero, suc, ◌+◌, ◌-◌, ◌*◌, ◌<◌, ◌≤◌, ◌≡◌, List, [], ◌∷◌, true, false, ltb, length, refl, sym, ap, ◌∙◌, arith, ⊎_elim, ◌+ℤ◌}
use Rattle.std.specs.Prelude.{All, ℤ, pos, negsuc}
use Rattle.std.proofs.lemmas.Bool.{cases_lt}
use Rattle.std.proofs.lemmas.Bool.Decides.{nat_tests}
use Rattle.std.proofs.lemmas.Int.{ints}
use Rattle.std.proofs.lemmas.List.Elements.{All-cons}
use Rattle.periodic_laws.specs.dioid.declared.dates.Date.{Date}
use Rattle.periodic_laws.specs.dioid.declared.dates.Date.TheVariants.{At}
use Rattle.periodic_laws.specs.dioid.Dates.{move}
use Rattle.periodic_laws.proofs.dioid_proofs.Moves.{at_inj}
use Rattle.teg_net.specs.Nets.{NetLists}
use Rattle.periodic_laws.specs.teg_model.LiveRanks.{HasEndsInRange}
use Rattle.periodic_laws.proofs.teg_model_proofs.DateFunctions.{Dating}
use Rattle.settled_laws.specs.SettledForms.{SettledForm, settled_date, StandsFor}
use Rattle.settled_laws.proofs.Telling.{form_tells}
use Rattle.delay_laws.specs.declared.table.Delay.{Delay}
use Rattle.delay_laws.specs.declared.table.Timetable.{Timetable}
use Rattle.delay_laws.specs.PlannedTimetables.{planned, IsWorkable}
use Rattle.delay_laws.specs.Delays.{IsDelayedBy, together}
use Rattle.delay_laws.specs.SettlingLaws.{StepsAreThePlan, natural_of_date, delay_by_form, FormsTellDelays}
use Rattle.delay_laws.proofs.Releases.{release_above, release_below}
use Rattle.delay_laws.proofs.Dated.{IsBetween, dated_between}
use Rattle.delay_laws.proofs.Spare.{same_step}

-- ---- steps of numbers near a plan

module _ (X : ℕ → ℕ) (d T D : ℕ) (low : (r : ℕ) → d + r * T ≤ X r) (high : (r : ℕ) → X r ≤ d + r * T + D) where
  climbs : (s : ℕ) → ((r : ℕ) → pos (X (r + 1)) ≡ pos (X r) +ℤ pos s) → (r : ℕ) → X r ≡ X 0 + r * s
  climbs s h zero = omega arith
  climbs s h (suc r) =
      let before = climbs s h r in
      let here : pos (X (r + 1)) ≡ pos (X r) +ℤ pos s = h r in
      let e : r + 1 ≡ suc r = omega arith in
      let next : X (suc r) ≡ X (r + 1) = ap X (sym e) in
      let more : suc r * s ≡ r * s + s = grind arith in
      omega (arith, ints)

  sinks : (s : ℕ) → ((r : ℕ) → pos (X (r + 1)) ≡ pos (X r) +ℤ negsuc s) → (r : ℕ) → X r + r ≤ X 0
  sinks s h zero = omega arith
  sinks s h (suc r) =
      let before = sinks s h r in
      let here : pos (X (r + 1)) ≡ pos (X r) +ℤ negsuc s = h r in
      let e : r + 1 ≡ suc r = omega arith in
      let next : X (suc r) ≡ X (r + 1) = ap X (sym e) in
      omega (arith, ints)

  planned_step : (step : ℤ) → ((r : ℕ) → pos (X (r + 1)) ≡ pos (X r) +ℤ step) → step ≡ pos T
  planned_step (pos s) h =
      let same : s ≡ T = same_step (X 0) d s T D
      (λ r. let e = climbs s h r in let l = low r in omega arith)
      (λ r. let e = climbs s h r in let l = high r in omega arith) in
      ap pos same
  planned_step (negsuc s) h = let down = sinks s h (X 0 + 1) in absurd (omega arith)

-- ---- steps of dates near the plan

-- so many periods on, the plan is so many steps on
planned_on : (period : ℕ) (t : Timetable) (i k again r : ℕ) → 1 ≤ k → planned period t i (k + r * again) ≡ planned period t i k + r * (period * again)
planned_on period t i k again r o =
    let e : (k + r * again) - 1 ≡ (k - 1) + r * again = omega arith in
    let distributes : (a b : ℕ) → period * (a + b) ≡ period * a + period * b = λ a b. grind arith in
    let swaps : period * (r * again) ≡ r * (period * again) = grind arith in
    let parts : period * ((k + r * again) - 1) ≡ period * (k - 1) + period * (r * again) = ap (λ (z : ℕ). period * z) e ∙ distributes (k - 1) (r * again) in
    omega arith

-- dates of one transition that stay near its plan
record IsNear (period : ℕ) (t : Timetable) (i most : ℕ) (dates : ℕ → Date) : Type 0 where
  between : (k : ℕ) → 1 ≤ k → IsBetween (planned period t i k) (planned period t i k + most) (dates k)

near_step : (period : ℕ) (t : Timetable) (i most : ℕ) (dates : ℕ → Date) (after again : ℕ) (step : ℤ) → IsNear period t i most dates
    → ((k : ℕ) → after < k → dates (k + again) ≡ move step (dates k)) → step ≡ pos (period * again)
near_step period t i most dates after again step near h =
    let k : ℕ = after + 1 in
    let at : (r : ℕ) → IsBetween (planned period t i (k + r * again)) (planned period t i (k + r * again) + most) (dates (k + r * again)) = λ r. near.between (k + r * again) (omega arith) in
    planned_step (λ r. planned period t i (k + r * again) + (at r).more) (planned period t i k) (period * again) most
    (λ r. let e = planned_on period t i k again r (omega arith) in omega arith)
    (λ r. let e = planned_on period t i k again r (omega arith) in let few = (at r).few in omega arith)
    step
    (λ r.
    let next : k + (r + 1) * again ≡ (k + r * again) + again = grind arith in
    let moved : dates (k + (r + 1) * again) ≡ move step (dates (k + r * again)) = ap dates next ∙ h (k + r * again) (omega arith) in
    let made : dates (k + (r + 1) * again) ≡ At (pos (planned period t i (k + r * again) + (at r).more) +ℤ step) = moved ∙ ap (move step) (at r).is in
    at_inj _ _ (sym (at (r + 1)).is ∙ made))

-- each table has a delay that none is above
some_bound : (ds : List Delay) → (most : ℕ) × All (λ d. d.by ≤ most) ds
some_bound [] = (0, λ k d l. absurd (omega arith))
some_bound (c ∷ ds) =
    let rest = some_bound ds in
    (c.by + rest.0, All-cons (λ d. d.by ≤ c.by + rest.0) c ds (omega arith) (λ k d l. let low = rest.1 k d l in omega arith))

pub together_first : (n : ℕ) (x w : Dating) (i k : ℕ) → i < n → together n x w i k ≡ x i k
together_first n x w i k l = let e : ltb i n ≡ true = grind (arith, nat_tests) in rw e refl

pub together_second : (n : ℕ) (x w : Dating) (i k : ℕ) → n ≤ i → together n x w i k ≡ w (i - n) k
together_second n x w i k l = let e : ltb i n ≡ false = grind (arith, nat_tests) in rw e refl

pub steps_are_the_plan : StepsAreThePlan
steps_are_the_plan net ends period t work x w h after again step r i l =
    let n : ℕ = length net.transitions in
    let bound = some_bound t.delays.items in
    ⊎_elim
    (λ (m : i < n). near_step period t i bound.0 (x i) after again (step i)
    (record { between = λ k o. dated_between net period t x w bound.0 ends work bound.1 h i k m o })
    (λ k o. sym (together_first n x w i (k + again) m) ∙ r.again i k l o ∙ ap (move (step i)) (together_first n x w i k m)))
    (λ (m : n ≤ i). near_step period t (i - n) bound.0 (w (i - n)) after again (step i)
    (record {
      between = λ k o.
          let here = h.release (i - n) k (omega arith) o in
          let up = release_below period t bound.0 (i - n) k here.0 bound.1 here.2 in
          let down = release_above period t (i - n) k here.0 o here.2 in
          let parts : here.0 ≡ planned period t (i - n) k + (here.0 - planned period t (i - n) k) = omega arith in
          record { more = here.0 - planned period t (i - n) k; is = here.1 ∙ ap (λ (z : ℕ). At (pos z)) parts; few = omega arith };
    })
    (λ k o. sym (together_second n x w i (k + again) m) ∙ r.again i k l o ∙ ap (move (step i)) (together_second n x w i k m)))
    (cases_lt i n)

-- ---- what forms tell

-- the delay that a form tells is that of the date
told : (net : NetLists) (period : ℕ) (t : Timetable) (f : SettledForm) (x w : Dating) → HasEndsInRange net → IsWorkable net period t → IsDelayedBy net period t x w
    → StandsFor (length net.transitions + length net.transitions) f (together (length net.transitions) x w)
    → (i k : ℕ) → i < length net.transitions → 1 ≤ k → (settled_date f i k ≡ x i k) × (x i k ≡ At (pos (planned period t i k + delay_by_form f period t i k)))
told net period t f x w ends work h stands i k l o =
    let n : ℕ = length net.transitions in
    let bound = some_bound t.delays.items in
    let b = dated_between net period t x w bound.0 ends work bound.1 h i k l o in
    let same : settled_date f i k ≡ x i k = form_tells (n + n) f (together n x w) stands i k (omega arith) o ∙ together_first n x w i k l in
    let number : natural_of_date (settled_date f i k) ≡ planned period t i k + b.more = ap natural_of_date (same ∙ b.is) in
    let e : b.more ≡ delay_by_form f period t i k = omega arith in
    (same, b.is ∙ ap (λ (z : ℕ). At (pos (planned period t i k + z))) e)

pub forms_tell_delays : FormsTellDelays
forms_tell_delays net ends period t work f h =
    let n : ℕ = length net.transitions in
    let x : Dating = h.0 in
    let w : Dating = h.1 in
    let stands = h.3.stands in
    let steps = steps_are_the_plan net ends period t work x w h.2 f.after f.period _ stands.repeats in
    let here = told net period t f x w ends work h.2 stands in (
      record {
        left = (x, w, h.2, λ i k l o. (here i k l o).1);
        some = stands.repeats.at_least_one;
        comes_again = λ i k l o.
            let one = (here i k l (omega arith)).1 in
            let two = (here i (k + f.period) l (omega arith)).1 in
            let moved = sym (together_first n x w i (k + f.period) l) ∙ stands.repeats.again i k (omega arith) o ∙ ap (move _) (together_first n x w i k l) in
            let made = sym two ∙ moved ∙ ap (λ (z : ℤ). move z (x i k)) (steps i (omega arith)) ∙ ap (move (pos (period * f.period))) one in
            let numbers : pos (planned period t i (k + f.period) + delay_by_form f period t i (k + f.period)) ≡ pos
            (planned period t i k + delay_by_form f period t i k) +ℤ pos (period * f.period) = at_inj _ _ made in
            let plan = planned_on period t i k f.period 1 (omega arith) in
            let e : k + 1 * f.period ≡ k + f.period = omega arith in
            let plan' : planned period t i (k + f.period) ≡ planned period t i (k + 1 * f.period) = ap (planned period t i) (sym e) in
            omega (arith, ints);
      },
      λ i k l o. (here i k l o).0 ∙ (here i k l o).1,
    )
