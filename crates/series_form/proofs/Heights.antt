-- Heights that a walk back along a cycle tells, and that all leads on the common period are told by them.
use Rattle.std.proofs.Common.{◌≡◌, refl, ap, arith, ℕ, ℤ, pos, zero, suc, ◌+◌, ◌*◌, ◌-◌, ◌/◌, ◌%◌, ◌≤◌, ◌<◌, ◌-ℤ◌, sym, ◌∙◌, subst, ⊎_elim, ◌⊎◌, cond, ltb, true, false, to_z, of_z}
use Rattle.std.specs.Prelude.{◌≤ℤ◌, ◌<ℤ◌, ◌+ℤ◌}
use Rattle.std.specs.Int.{w128, int_max}
use Rattle.std.specs.Int.RustNames.{unsigned_abs}
use Rattle.std.proofs.lemmas.Int.{ints, clamps, to_z-of_z}
use Rattle.std.proofs.lemmas.Bool.{cases_lt}
use Rattle.std.proofs.lemmas.Bool.Decides.{nat_tests}
use Rattle.std.proofs.lemmas.Nat.{mod_below, div-add-mod', div_below, mul-le}
use Rattle.std.proofs.Math.Nat.{mul-le-mul_right, add-mul-mod_self_right, eq-or-lt_of_le}
use Rattle.dioid.specs.declared.dates.Date.{Date}
use Rattle.dioid.specs.declared.dates.Date.TheVariants.{At}
use Rattle.dioid.specs.Dates.{move}
use Rattle.series_laws.specs.Periodic.{Repeats, times}
use Rattle.series_laws.proofs.Repeating.{repeats_times}
use Rattle.series_laws.specs.SeriesForms.{Form, size_of, repeat_start, value_at, IsForm, gap}
use Rattle.series_laws.specs.Needs.{period_with, rise_of, fall_of, turns_of, common, greatest_int, later_start, lead_of}
use Rattle.series_laws.proofs.Sums.{form_repeats_own, common_positive, common_second, tail_number, le_greatest_int, rise_repeats, fall_repeats}
use Rattle.series_form.specs.NumberBounds.{IsSeries}
use Rattle.series_form.specs.Leads.{IsGaining, NoGreaterLead, IsReach, climb_of, cover_of, gain_from_before, height_past, lead_past, integer_of_date, place_before, width_of}
use Rattle.series_form.proofs.Cycles.{comes_low, turns_least, turns_some}
use Rattle.series_laws.proofs.number_laws_proofs.Pigeons.{difference}
use Rattle.series_form.specs.SeriesLimits.{greatest_value, most_covering_shifts, greatest_moderate, greatest_height}
use Rattle.series_form.proofs.DateNumbers.{abs_sum, abs_difference, moderate_fits, within_fits}
use Rattle.series_form.proofs.Finished.{value_up_to, gap_up_to}
use Rattle.series_form.proofs.PointwiseTables.{max_up_to}

module _ (f g : Form) (isf : IsForm f) (isg : IsForm g) (gaining : IsGaining f g) where
  -- values past where both repeat
  first_number : (i : ℕ) → (v : ℤ) × (value_at f (later_start f g + i) ≡ At v)
  first_number i = tail_number f gaining.first.0 isf gaining.first.1 (later_start f g + i) (omega arith)

  second_number : (i : ℕ) → (v : ℤ) × (value_at g (later_start f g + i) ≡ At v)
  second_number i = tail_number g gaining.second.0 isg gaining.second.1 (later_start f g + i) (omega arith)

  lead_is : (i : ℕ) → lead_past f g i ≡ integer_of_date (value_at g (later_start f g + i)) -ℤ integer_of_date (value_at f (later_start f g + i))
  lead_is i =
      let vf : (v : ℤ) × (value_at f (later_start f g + i) ≡ At v) = first_number i in
      let vg : (v : ℤ) × (value_at g (later_start f g + i) ≡ At v) = second_number i in
      ap (λ (d : Date). gap d (value_at g (later_start f g + i))) vf.1 ∙ ap (gap (At vf.0)) vg.1
      ∙ sym (ap (λ (d : Date). integer_of_date d -ℤ integer_of_date (value_at f (later_start f g + i))) vg.1 ∙ ap (λ (d : Date). vg.0 -ℤ integer_of_date d) vf.1)

  -- so many periods of the first on, it has gained as many steps
  first_later : (i j : ℕ) → integer_of_date (value_at f (later_start f g + (i + j * f.period))) ≡ integer_of_date (value_at f (later_start f g + i)) +ℤ times j f.step
  first_later i j =
      let vf : (v : ℤ) × (value_at f (later_start f g + i) ≡ At v) = first_number i in
      let on : later_start f g + (i + j * f.period) ≡ later_start f g + i + j * f.period = omega arith in
      let own : Repeats (value_at f) (repeat_start f) (j * f.period) (times j f.step) = repeats_times j (form_repeats_own f isf) in
      ap integer_of_date (ap (value_at f) on ∙ own.at (later_start f g + i) (omega arith) ∙ ap (move (times j f.step)) vf.1) ∙ sym (ap (λ (d : Date). integer_of_date d +ℤ times j f.step) vf.1)

  -- a width on, the second has gained the climb
  second_later : (i : ℕ) → integer_of_date (value_at g (later_start f g + (i + width_of f g))) ≡ integer_of_date (value_at g (later_start f g + i)) +ℤ climb_of f g
  second_later i =
      let vg : (v : ℤ) × (value_at g (later_start f g + i) ≡ At v) = second_number i in
      let on : later_start f g + (i + width_of f g) ≡ later_start f g + i + width_of f g = omega arith in
      let own : Repeats (value_at g) (repeat_start g) (cover_of f g * g.period) (times (cover_of f g) g.step) = repeats_times (cover_of f g) (form_repeats_own g isg) in
      ap integer_of_date (ap (value_at g) on ∙ own.at (later_start f g + i) (omega arith) ∙ ap (move (climb_of f g)) vg.1) ∙ sym (ap (λ (d : Date). integer_of_date d +ℤ climb_of f g) vg.1)

  -- a height less what the first has at the place is a lead
  height_lead : (place j : ℕ) → height_past f g place j -ℤ integer_of_date (value_at f (later_start f g + place)) ≡ lead_past f g (place + j * f.period)
  height_lead place j =
      let e : lead_past f g (place + j * f.period) ≡ integer_of_date
      (value_at g (later_start f g + (place + j * f.period))) -ℤ integer_of_date
      (value_at f (later_start f g + (place + j * f.period))) = lead_is (place + j * f.period) in
      let h : integer_of_date (value_at f (later_start f g + (place + j * f.period))) ≡ integer_of_date (value_at f (later_start f g + place)) +ℤ times j f.step = first_later place j in
      omega (arith, ints)

  -- a step back adds a period to each height
  height_before : (place j : ℕ) → f.period ≤ width_of f g → height_past f g (place_before f g place) (suc j) ≡ height_past f g place j +ℤ gain_from_before f g place
  height_before place j covers = ⊎_elim
      (λ less.
      let t : ltb place f.period ≡ true = grind (arith, nat_tests) in
      let on : place + width_of f g - f.period + suc j * f.period ≡ place + j * f.period + width_of f g = omega arith in
      let far : integer_of_date (value_at g (later_start f g + (place + width_of f g - f.period + suc j * f.period))) ≡ integer_of_date
      (value_at g (later_start f g + (place + j * f.period))) +ℤ climb_of f g =
      ap (λ (z : ℕ). integer_of_date (value_at g (later_start f g + z))) on ∙ second_later (place + j * f.period) in
      rw t (omega (arith, ints)))
      (λ more.
      let t : ltb place f.period ≡ false = grind (arith, nat_tests) in
      let on : place - f.period + suc j * f.period ≡ place + j * f.period = omega arith in
      let far : integer_of_date (value_at g (later_start f g + (place - f.period + suc j * f.period))) ≡ integer_of_date (value_at g (later_start f g + (place + j * f.period))) =
      ap (λ (z : ℕ). integer_of_date (value_at g (later_start f g + z))) on in
      rw t (omega (arith, ints)))
      (cases_lt place f.period)

  height_here : (place : ℕ) → height_past f g place 0 ≡ integer_of_date (value_at g (later_start f g + place))
  height_here place =
      let on : place + 0 * f.period ≡ place = omega arith in
      let e : integer_of_date (value_at g (later_start f g + (place + 0 * f.period))) ≡ integer_of_date
      (value_at g (later_start f g + place)) = ap (λ (z : ℕ). integer_of_date (value_at g (later_start f g + z))) on in
      omega (arith, ints)

  -- the reach of the place before
  pub reach_before : (m place : ℕ) (height : ℤ) → f.period ≤ width_of f g → IsReach f g m place height → place_before f g place < width_of f g
      → IsReach f g (m + 1) (place_before f g place) (int_max (integer_of_date (value_at g (later_start f g + place_before f g place))) (height +ℤ gain_from_before f g place))
  reach_before m place height covers is low = record {
    within = low;
    reached = let here : height_past f g (place_before f g place) 0 ≡ integer_of_date (value_at g (later_start f g + place_before f g place)) = height_here (place_before f g place) in
        let there : height_past f g (place_before f g place) (suc is.reached.0) ≡ height_past f g place is.reached.0 +ℤ gain_from_before f g place = height_before place is.reached.0 covers in
        one_of (integer_of_date (value_at g (later_start f g + place_before f g place))) (height +ℤ gain_from_before f g place) (height_past f g (place_before f g place)) (suc is.reached.0) (sym here)
        (ap (λ (z : ℤ). z +ℤ gain_from_before f g place) is.reached.1 ∙ sym there);
    greatest = λ j. each j;
  } where
    one_of : (x y : ℤ) (H : ℕ → ℤ) (k : ℕ) → x ≡ H 0 → y ≡ H k → (j : ℕ) × (int_max x y ≡ H j)
    one_of x y H k ex ey = ⊎_elim (λ l. (0, grind (arith, ints, clamps))) (λ l. (k, grind (arith, ints, clamps))) (either x y) where
      either : (x y : ℤ) → (int_max x y ≡ x) ⊎ (int_max x y ≡ y)
      either x y = grind (arith, ints, clamps)

    each : (j : ℕ) → j ≤ m + 1 → height_past f g (place_before f g place) j ≤ℤ int_max (integer_of_date (value_at g (later_start f g + place_before f g place))) (height +ℤ gain_from_before f g place)
    each zero l = let here : height_past f g (place_before f g place) 0 ≡ integer_of_date (value_at g (later_start f g + place_before f g place)) = height_here (place_before f g place) in
        rw here (omega (arith, ints, clamps))
    each (suc j) l =
        let there : height_past f g (place_before f g place) (suc j) ≡ height_past f g place j +ℤ gain_from_before f g place = height_before place j covers in
        let below : height_past f g place j ≤ℤ height = is.greatest j (omega arith) in
        rw there (omega (arith, ints, clamps))

  -- where the walk begins
  pub reach_first : (place : ℕ) → place < width_of f g → IsReach f g 0 place (integer_of_date (value_at g (later_start f g + place)))
  reach_first place low = record {
    within = low;
    reached = (0, sym (height_here place));
    greatest = λ j l. let z : j ≡ 0 = omega arith in let e : height_past f g place j ≡ integer_of_date
        (value_at g (later_start f g + place)) = ap (height_past f g place) z ∙ height_here place in rw e (omega (arith, ints));
  }

  -- ---- leads on the common period

  -- a common period on, the lead is less
  lead_once : (i : ℕ) → lead_past f g (i + period_with f g) ≤ℤ lead_past f g i
  lead_once i =
      let gain : pos 0 <ℤ (rise_of f g -ℤ fall_of f g) = gaining.gain in
      let vf : (v : ℤ) × (value_at f (later_start f g + i) ≡ At v) = first_number i in
      let vg : (v : ℤ) × (value_at g (later_start f g + i) ≡ At v) = second_number i in
      let on : later_start f g + (i + period_with f g) ≡ later_start f g + i + period_with f g = omega arith in
      let wf : value_at f (later_start f g + (i + period_with f g)) ≡ At (vf.0 +ℤ rise_of f g) = ap (value_at f) on
      ∙ (rise_repeats f g isf).at (later_start f g + i) (omega arith) ∙ ap (move (rise_of f g)) vf.1 in
      let wg : value_at g (later_start f g + (i + period_with f g)) ≡ At (vg.0 +ℤ fall_of f g) = ap (value_at g) on
      ∙ (fall_repeats f g isg).at (later_start f g + i) (omega arith) ∙ ap (move (fall_of f g)) vg.1 in
      let here : lead_past f g i ≡ vg.0 -ℤ vf.0 = ap (λ (d : Date). gap d (value_at g (later_start f g + i))) vf.1 ∙ ap (gap (At vf.0)) vg.1 in
      let there : lead_past f g (i + period_with f g) ≡ (vg.0 +ℤ fall_of f g) -ℤ (vf.0 +ℤ rise_of f g) =
      ap (λ (d : Date). gap d (value_at g (later_start f g + (i + period_with f g)))) wf ∙ ap (gap (At (vf.0 +ℤ rise_of f g))) wg in
      omega (arith, ints)

  lead_later : (t i : ℕ) → lead_past f g (i + t * period_with f g) ≤ℤ lead_past f g i
  lead_later zero i = let e : i + zero * period_with f g ≡ i = omega arith in let h : lead_past f g (i + zero * period_with f g) ≡ lead_past f g i = ap (lead_past f g) e in omega (arith, ints)
  lead_later (suc t) i =
      let e : i + suc t * period_with f g ≡ i + t * period_with f g + period_with f g = omega arith in
      let h : lead_past f g (i + suc t * period_with f g) ≡ lead_past f g (i + t * period_with f g + period_with f g) = ap (lead_past f g) e in
      let once : lead_past f g (i + t * period_with f g + period_with f g) ≤ℤ lead_past f g (i + t * period_with f g) = lead_once (i + t * period_with f g) in
      let rest : lead_past f g (i + t * period_with f g) ≤ℤ lead_past f g i = lead_later t i in
      omega (arith, ints)

  -- no lead is above the greatest on the common period
  pub lead_below : (i : ℕ) → lead_past f g i ≤ℤ lead_of f g
  lead_below i =
      let l : ℕ = period_with f g in
      let some : 0 < period_with f g = common_positive f.period g.period isf.period_positive in
      let e : i / l * l + i % l ≡ i = div-add-mod' i l in
      let low : i % l < l = mod_below i l some in
      let on : i ≡ i % l + i / l * period_with f g = omega arith in
      let h : lead_past f g i ≡ lead_past f g (i % l + i / l * period_with f g) = ap (lead_past f g) on in
      let less : lead_past f g (i % l + i / l * period_with f g) ≤ℤ lead_past f g (i % l) = lead_later (i / l) (i % l) in
      let top : lead_past f g (i % l) ≤ℤ lead_of f g = le_greatest_int (lead_past f g) (period_with f g - 1) (i % l) (omega arith) in
      omega (arith, ints)

  -- a reach tells a lead, no greater than the greatest
  pub reach_below : (m place : ℕ) (height : ℤ) → IsReach f g m place height → (height -ℤ integer_of_date (value_at f (later_start f g + place))) ≤ℤ lead_of f g
  reach_below m place height is =
      let j : ℕ = is.reached.0 in
      let e : height ≡ height_past f g place is.reached.0 = is.reached.1 in
      let h : height_past f g place is.reached.0 -ℤ integer_of_date (value_at f (later_start f g + place)) ≡ lead_past f g (place + is.reached.0 * f.period) = height_lead place is.reached.0 in
      let low : lead_past f g (place + is.reached.0 * f.period) ≤ℤ lead_of f g = lead_below (place + is.reached.0 * f.period) in
      omega (arith, ints)

  -- and no lead from its place within its periods is greater
  pub reach_leads : (m place : ℕ) (height : ℤ) → IsReach f g m place height → (j : ℕ) → j ≤ m
      → lead_past f g (place + j * f.period) ≤ℤ (height -ℤ integer_of_date (value_at f (later_start f g + place)))
  reach_leads m place height is j l =
      let h : height_past f g place j -ℤ integer_of_date (value_at f (later_start f g + place)) ≡ lead_past f g (place + j * f.period) = height_lead place j in
      let low : height_past f g place j ≤ℤ height = is.greatest j l in
      omega (arith, ints)

-- a lead on the list is moderate
pub gap_moderate : (f g : Form) (k : ℕ) → IsSeries f → IsSeries g → k ≤ most_covering_shifts → unsigned_abs (gap (value_at f k) (value_at g k)) ≤ greatest_moderate
gap_moderate f g k sf sg w =
    let low = gap_up_to (greatest_value + most_covering_shifts * greatest_value) (value_at f k) (value_at g k)
    (value_up_to f sf k most_covering_shifts w) (value_up_to g sg k most_covering_shifts w) in
    omega arith

-- the greatest of numbers is one of them
greatest_up_to : (F : ℕ → ℤ) (n b : ℕ) → ((i : ℕ) → i ≤ n → unsigned_abs (F i) ≤ b) → unsigned_abs (greatest_int F n) ≤ b
greatest_up_to F zero b h = h 0 (omega arith)
greatest_up_to F (suc n) b h = max_up_to (greatest_int F n) (F (suc n)) b (greatest_up_to F n b (λ i l. h i (omega arith))) (h (suc n) (omega arith))

pub lead_moderate : (f g : Form) → IsSeries f → IsSeries g → unsigned_abs (lead_of f g) ≤ greatest_moderate
lead_moderate f g sf sg =
    let some : 0 < g.period = sg.canonical.form.period_positive in
    let low_f : f.period ≤ size_of f = sf.canonical.form.period_fits in
    let low_g : g.period ≤ size_of g = sg.canonical.form.period_fits in
    let short_f : size_of f ≤ 20000 = sf.short in
    let short_g : size_of g ≤ 20000 = sg.short in
    let few : turns_of f.period g.period ≤ g.period = turns_least f.period g.period g.period f.period some some (omega arith) in
    let long : turns_of f.period g.period * f.period ≤ 20000 * 20000 = mul-le (turns_of f.period g.period) f.period 20000 20000 (omega arith) (omega arith) in
    let early : later_start f g ≤ 20000 = omega arith in
    greatest_up_to (lead_past f g) (period_with f g - 1) greatest_moderate (λ i l. gap_moderate f g (later_start f g + i) sf sg (omega arith))

greatest_below : (F : ℕ → ℤ) (n : ℕ) (b : ℤ) → ((i : ℕ) → i ≤ n → F i ≤ℤ b) → greatest_int F n ≤ℤ b
greatest_below F zero b h = h 0 (omega arith)
greatest_below F (suc n) b h =
    let low : greatest_int F n ≤ℤ b = greatest_below F n b (λ i l. h i (omega arith)) in
    let last : F (suc n) ≤ℤ b = h (suc n) (omega arith) in
    omega (arith, ints, clamps)

-- where every cycle is walked twice, no lead is greater
pub all_led : (f g : Form) (best : ℤ) → IsForm f → IsForm g → f.period ≤ width_of f g
    → ((start : ℕ) → start < width_of f g / turns_of f.period (width_of f g) → NoGreaterLead f g start (2 * turns_of f.period (width_of f g)) best)
    → lead_of f g ≤ℤ best
all_led f g best isf isg covers led = greatest_below (lead_past f g) (period_with f g - 1) best each where
  each : (i : ℕ) → i ≤ period_with f g - 1 → lead_past f g i ≤ℤ best
  each i last =
      let a : ℕ = f.period in
      let w : ℕ = width_of f g in
      let some_a : 0 < f.period = isf.period_positive in
      let some_w : 0 < width_of f g = omega arith in
      let some_b : 0 < g.period = isg.period_positive in
      let n : ℕ = turns_of f.period (width_of f g) in
      let round : n * a ≡ common a w / w * w = sym (common_second f.period (width_of f g) some_w) in
      let more : n * a ≡ common a w / w * cover_of f g * g.period = let e : common a w / w * (cover_of f g * g.period) ≡ common a w / w * w = refl in omega arith in
      let few : turns_of f.period g.period ≤ n = turns_least f.period g.period n (common a w / w * cover_of f g) some_b (turns_some f.period (width_of f g)) more in
      let long : turns_of f.period g.period * a ≤ n * a = mul-le-mul_right a few in
      let positive : 0 < period_with f g = common_positive f.period g.period isf.period_positive in
      let below : i < n * a = omega arith in
      let j : ℕ = i / a in
      let place : ℕ = i % a in
      let whole : j * a + place ≡ i = div-add-mod' i a in
      let within : place < a = mod_below i a some_a in
      let turns : j < n = div_below i a n some_a below in
      let low : (m : ℕ) × (m < n) × ((place + m * a) % w < w / n) = comes_low a w place some_a some_w in
      let m : ℕ = low.0 + n in
      let onward : place + m * a ≡ place + low.0 * a + common a w / w * w = let e : m * a ≡ low.0 * a + n * a = omega arith in omega arith in
      let same : (place + m * a) % w ≡ (place + low.0 * a) % w = ap (λ (z : ℕ). z % w) onward ∙ add-mul-mod_self_right (place + low.0 * a) (common a w / w) w in
      let found : lead_past f g (place + j * f.period) ≤ℤ best = led ((place + low.0 * a) % w) low.2 m place j (omega (arith, low.1)) (omega (arith, low.1)) within same (omega arith) in
      let back : place + j * f.period ≡ i = omega arith in
      subst (λ (z : ℕ). lead_past f g z ≤ℤ best) back found

-- ---- steps of the walk

pub covers_it : (f g : Form) → IsForm f → IsForm g → f.period ≤ width_of f g
covers_it f g isf isg =
    let some : 0 < g.period = isg.period_positive in
    let e : (f.period + (g.period - 1)) / g.period * g.period + (f.period + (g.period - 1)) % g.period ≡ f.period + (g.period - 1) = div-add-mod' (f.period + (g.period - 1)) g.period in
    let low : (f.period + (g.period - 1)) % g.period < g.period = mod_below (f.period + (g.period - 1)) g.period some in
    omega arith

-- two places below w with one remainder are the same
same_place : (x y k w : ℕ) → x < w → y < w → (x + k) % w ≡ (y + k) % w → x ≡ y
same_place x y k w lx ly e = ⊎_elim
    (λ l. ordered x y k w lx ly e (omega arith))
    (λ m. sym (ordered y x k w ly lx (sym e) (omega arith)))
    (cases_lt x y) where
      none : (d q w : ℕ) → d ≡ q * w → d < w → d ≡ 0
      none d zero w e l = omega arith
      none d (suc q) w e l = absurd (omega arith)

      ordered : (x y k w : ℕ) → x < w → y < w → (x + k) % w ≡ (y + k) % w → x ≤ y → x ≡ y
      ordered x y k w lx ly e l =
          let on : y + k ≡ x + k + (y - x) = omega arith in
          let t : (q : ℕ) × (y - x ≡ q * w) = difference (x + k) (y - x) w (omega arith) (e ∙ ap (λ (z : ℕ). z % w) on) in
          let z : y - x ≡ 0 = none (y - x) t.0 w t.1 (omega arith) in
          omega arith

-- the cycle is kept
pub cycle_kept : (f g : Form) (m place start : ℕ) → f.period ≤ width_of f g → (place + m * f.period) % width_of f g ≡ start
    → (place_before f g place + (m + 1) * f.period) % width_of f g ≡ start
cycle_kept f g m place start covers e = ⊎_elim
    (λ (less : place < f.period).
    let t : ltb place f.period ≡ true = grind (arith, nat_tests) in
    let on : place + width_of f g - f.period + (m + 1) * f.period ≡ place + m * f.period + 1 * width_of f g = omega arith in
    rw t (ap (λ (z : ℕ). z % width_of f g) on ∙ add-mul-mod_self_right (place + m * f.period) 1 (width_of f g) ∙ e))
    (λ (more : f.period ≤ place).
    let t : ltb place f.period ≡ false = grind (arith, nat_tests) in
    let on : place - f.period + (m + 1) * f.period ≡ place + m * f.period = omega arith in
    rw t (ap (λ (z : ℕ). z % width_of f g) on ∙ e))
    (cases_lt place f.period)

-- one place more is told
pub record IsLedOn (f g : Form) (start m : ℕ) (known best : ℤ) : Type 0 where
  pub kept : known ≤ℤ best
  pub no_more : best ≤ℤ lead_of f g
  pub led : NoGreaterLead f g start m best

pub led_on : (f g : Form) (start m place : ℕ) (height known best : ℤ) → IsForm f → IsForm g → IsGaining f g
    → known ≤ℤ lead_of f g → NoGreaterLead f g start m known → IsReach f g (m + 1) place height → (place + (m + 1) * f.period) % width_of f g ≡ start
    → best ≡ cond (ltb place f.period) (int_max known (height -ℤ integer_of_date (value_at f (later_start f g + place)))) known
    → IsLedOn f g start (m + 1) known best
led_on f g start m place height known best isf isg gaining low led is at e = ⊎_elim
    (λ (less : place < f.period).
    let t : ltb place f.period ≡ true = grind (arith, nat_tests) in
    let x : ℤ = height -ℤ integer_of_date (value_at f (later_start f g + place)) in
    let b : best ≡ int_max known (height -ℤ integer_of_date (value_at f (later_start f g + place))) = e
    ∙ ap (λ z. cond z (int_max known (height -ℤ integer_of_date (value_at f (later_start f g + place)))) known) t in
    let top : (height -ℤ integer_of_date (value_at f (later_start f g + place))) ≤ℤ lead_of f g = reach_below f g isf isg gaining (m + 1) place height is in
    further (omega (arith, ints, clamps)) (omega (arith, ints, clamps))
    (λ p j w l same. let q : p ≡ place = same_place p place ((m + 1) * f.period) (width_of f g) (omega (arith, covers_it f g isf isg)) is.within (same ∙ sym at) in
    let r : lead_past f g (place + j * f.period) ≤ℤ (height -ℤ integer_of_date (value_at f (later_start f g + place))) = reach_leads f g isf isg gaining (m + 1) place height is j l in
    let s : lead_past f g (place + j * f.period) ≤ℤ best = omega (arith, ints, clamps) in
    subst (λ (z : ℕ). lead_past f g (z + j * f.period) ≤ℤ best) (sym q) s))
    (λ (more : f.period ≤ place).
    let t : ltb place f.period ≡ false = grind (arith, nat_tests) in
    let b : best ≡ known = e ∙ ap (λ z. cond z (int_max known (height -ℤ integer_of_date (value_at f (later_start f g + place)))) known) t in
    further (omega (arith, ints)) (omega (arith, ints))
    (λ p j w l same. absurd (let q : p ≡ place = same_place p place ((m + 1) * f.period) (width_of f g) (omega (arith, covers_it f g isf isg)) is.within (same ∙ sym at) in omega arith)))
    (cases_lt place f.period) where
      further : known ≤ℤ best → best ≤ℤ lead_of f g
          → ((p j : ℕ) → p < f.period → j ≤ m + 1 → (p + (m + 1) * f.period) % width_of f g ≡ start → lead_past f g (p + j * f.period) ≤ℤ best)
          → IsLedOn f g start (m + 1) known best
      further up top last = record {
        kept = up;
        no_more = top;
        led = λ k p j some within w same l. ⊎_elim
            (λ (q : k ≡ m + 1). last p j w (omega arith) (subst (λ (z : ℕ). (p + z * f.period) % width_of f g ≡ start) q same))
            (λ (less : k < m + 1). let old : lead_past f g (p + j * f.period) ≤ℤ known = led k p j some (omega arith) w same l in omega (arith, ints))
            (eq-or-lt_of_le {n = k} {m = m + 1} within);
      }

-- a greater number tells no fewer
pub led_more : (f g : Form) (start steps : ℕ) (known best : ℤ) → known ≤ℤ best → NoGreaterLead f g start steps known → NoGreaterLead f g start steps best
led_more f g start steps known best up led = λ k p j some within w same l. let old : lead_past f g (p + j * f.period) ≤ℤ known = led k p j some within w same l in omega (arith, ints)

-- ---- as the code computes it

pub sum_code : (h k : ℤ) → unsigned_abs h ≤ greatest_height → unsigned_abs k ≤ greatest_moderate
    → to_z w128 (of_z w128 (to_z w128 (of_z w128 h) +ℤ to_z w128 (of_z w128 k))) ≡ h +ℤ k
sum_code h k bh bk =
    let a : to_z w128 (of_z w128 h) ≡ h = to_z-of_z w128 h (within_fits h (omega arith)) in
    let b : to_z w128 (of_z w128 k) ≡ k = to_z-of_z w128 k (moderate_fits k bk) in
    let low : unsigned_abs (h +ℤ k) ≤ greatest_height + greatest_moderate = abs_sum h k greatest_height greatest_moderate bh bk in
    ap (λ (z : ℤ). to_z w128 (of_z w128 (z +ℤ to_z w128 (of_z w128 k)))) a ∙ ap (λ (z : ℤ). to_z w128 (of_z w128 (h +ℤ z))) b ∙ to_z-of_z w128 (h +ℤ k) (within_fits (h +ℤ k) (omega arith))

pub less_code : (h k : ℤ) → unsigned_abs h ≤ greatest_height → unsigned_abs k ≤ greatest_moderate
    → to_z w128 (of_z w128 (to_z w128 (of_z w128 h) -ℤ to_z w128 (of_z w128 k))) ≡ h -ℤ k
less_code h k bh bk =
    let a : to_z w128 (of_z w128 h) ≡ h = to_z-of_z w128 h (within_fits h (omega arith)) in
    let b : to_z w128 (of_z w128 k) ≡ k = to_z-of_z w128 k (moderate_fits k bk) in
    let low : unsigned_abs (h -ℤ k) ≤ greatest_height + greatest_moderate = abs_difference h k greatest_height greatest_moderate bh bk in
    ap (λ (z : ℤ). to_z w128 (of_z w128 (z -ℤ to_z w128 (of_z w128 k)))) a ∙ ap (λ (z : ℤ). to_z w128 (of_z w128 (h -ℤ z))) b ∙ to_z-of_z w128 (h -ℤ k) (within_fits (h -ℤ k) (omega arith))

pub max_step : (r x y u v : ℤ) → r ≡ int_max x y → x ≡ u → y ≡ v → r ≡ int_max u v
max_step r x y u v e ex ey = e ∙ ap (λ (z : ℤ). int_max z y) ex ∙ ap (int_max u) ey

pub le_through : (x y z : ℤ) → x ≤ℤ y → y ≤ℤ z → x ≤ℤ z
le_through x y z h k = omega (arith, ints)

pub between : (x y : ℤ) → x ≤ℤ y → y ≤ℤ x → x ≡ y
between x y h k = omega (arith, ints)

pub le_same : (x y : ℤ) → x ≡ y → x ≤ℤ y
le_same x y e = omega (arith, ints)
