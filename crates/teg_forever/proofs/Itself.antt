-- The minimum of a series with itself is that series, and fits.
use Rattle.std.proofs.Common.{ℕ, ℤ, pos, true, ◌+◌, ◌-◌, ◌*◌, ◌%◌, ◌≡◌, ◌≤◌, length, refl, sym, subst, ap, ap₂, ◌∙◌, arith, ⊎_elim}
use Rattle.std.specs.Prelude.{eqb, max, ◌-ℤ◌}
use Rattle.std.proofs.Math.Nat.{mod_self}
use Rattle.std.proofs.lemmas.Int.{ints}
use Rattle.dioid.specs.declared.dates.Date.{Date}
use Rattle.dioid.specs.declared.dates.Date.TheVariants.{Early, At, Never}
use Rattle.dioid.proofs.DateOrder.{earlier_either}
use Rattle.forever_laws.specs.series_laws.declared.plans.Slopes.{Slopes}
use Rattle.forever_laws.specs.series_laws.declared.plans.Slopes.TheVariants.{Equal}
use Rattle.forever_laws.specs.series_laws.SeriesForms.{Form, size_of, repeat_start, value_at}
use Rattle.forever_laws.specs.series_laws.Needs.{by_sign, common, fall_of, form_least, least_plan, least_plan_by, need_of, rise_of, slopes_by, slopes_of, tail_of}
use Rattle.forever_laws.proofs.series_laws_proofs.Canonical.{one_canonical}
use Rattle.forever_laws.proofs.series_laws_proofs.FormValues.{first_found}
use Rattle.forever_laws.proofs.series_laws_proofs.Sums.{form_least_is, form_least_values}
use Rattle.series_form.specs.NumberBounds.{HasSmallNumbers, IsSeries}
use Rattle.series_ops.specs.declared.gains.Gain.{Gain}
use Rattle.series_ops.specs.Gains.{gain_meet, gain_of, MeetFits}

common_itself : (p : ℕ) → common p p ≡ p
common_itself p =
    let one : 1 * p ≡ p = omega arith in
    let test : eqb (1 * p % p) 0 ≡ true = ap (λ (n : ℕ). eqb (n % p) 0) one ∙ ap (λ (n : ℕ). eqb n 0) (mod_self p) in
    ap (λ (n : ℕ). n * p) (first_found (λ m. eqb (m * p % p) 0) 1 (p - 1) test) ∙ one

no_gain : (d : Date) (z : ℤ) → z ≡ pos 0 → slopes_by d d z ≡ Equal
no_gain Early z e = refl
no_gain (At t) z e = ap by_sign e
no_gain Never z e = refl

no_gap : (z : ℤ) → (z -ℤ z) ≡ pos 0
no_gap z = omega (arith, ints)

need_itself : (f : Form) → f.period ≤ length f.values → need_of (least_plan f f) ≡ size_of f
need_itself f fits =
    let slopes : slopes_of f f ≡ Equal = no_gain (tail_of f) (rise_of f f -ℤ fall_of f f) (no_gap (rise_of f f)) in
    let latest : max (repeat_start f) (repeat_start f) ≡ repeat_start f = omega arith in
    ap (λ (s : Slopes). need_of (least_plan_by s f f)) slopes ∙ (ap₂ (λ (p n : ℕ). p + n) latest (common_itself f.period) ∙ (omega arith))

least_itself : (f : Form) → IsSeries f → form_least f f ≡ f
least_itself f h =
    one_canonical (form_least f f) f (form_least_is f f h.canonical.form h.canonical.form) h.canonical
    (λ k. form_least_values f f h.canonical.form h.canonical.form k ∙ ⊎_elim (λ e. e) (λ e. e) (earlier_either (value_at f k) (value_at f k)))

pub meet_itself : (a b : Gain) → IsSeries a.series → a.series ≡ b.series → (a ≡ gain_meet a b) × MeetFits a b
meet_itself a b h e =
    let same : a ≡ b = ap gain_of e in
    let need : need_of (least_plan a.series a.series) ≡ size_of a.series = need_itself a.series h.canonical.form.period_fits in
    let short : size_of a.series ≤ 20000 = h.short in
    subst (λ (g : Gain). (a ≡ gain_meet a g) × MeetFits a g) same
    (ap gain_of (sym (least_itself a.series h)), record { short = omega (arith, need); small = subst HasSmallNumbers (sym (least_itself a.series h)) h.small })
