use Rattle.std.proofs.Common.{◌≡◌, ◌≤◌, ◌*◌, ◌/◌, ◌*ℤ◌, ℕ, ℤ, ap, sym, subst, ◌∙◌, arith, to_z, of_z}
use Rattle.std.specs.Int.{w128}
use Rattle.std.specs.Int.RustNames.{unsigned_abs}
use Rattle.std.proofs.lemmas.Int.{to_z-of_z}
use Rattle.std.proofs.lemmas.Nat.{mul-le}
use Rattle.series_laws.specs.Periodic.{times}
use Rattle.series_laws.specs.Needs.{period_with, fall_of}
use Rattle.series_laws.proofs.Sums.{common_second}
use Rattle.series_form.proofs.DateNumbers.{times_product, step_of, mul_fits}
use Rattle.series_laws.specs.ProductNeeds.{lifts_of}
use Rattle.series_form.specs.SeriesLimits.{greatest_gain, greatest_moderate, greatest_reach}
use Rattle.series_ops.proofs.ProductPlans.{lifted_bound}
use Rattle.series_ops.proofs.products.gain_on_lifts.Goals as goal

reach : (m : ℕ) (x : ℤ) → m ≤ 20000 → unsigned_abs x ≤ greatest_gain → m * unsigned_abs x ≤ greatest_reach
reach m x h k = let e : m * unsigned_abs x ≤ 20000 * greatest_gain = mul-le m (unsigned_abs x) 20000 greatest_gain h k in omega arith

code : (m : ℕ) (x : ℤ) → m ≤ 20000 → unsigned_abs x ≤ greatest_gain → to_z w128 (of_z w128 (to_z w128 m *ℤ to_z w128 (of_z w128 x))) ≡ times m x
code m x h k =
    ap (λ (z : ℤ). to_z w128 (of_z w128 z)) (step_of m x (omega arith) (omega arith)) ∙ to_z-of_z w128 _ (mul_fits m x (reach m x h k)) ∙ sym (times_product m x)

pub overflow_mul-result : goal.overflow_mul-result
overflow_mul-result c =
    rw (step_of c.lifts-lifts.result c.gain_over-gain.result (omega (arith, c.lifts-lifts.ensures.bound)) (omega (arith, c.gain_over-gain.ensures.bound)))
    (mul_fits c.lifts-lifts.result c.gain_over-gain.result (reach c.lifts-lifts.result c.gain_over-gain.result c.lifts-lifts.ensures.bound c.gain_over-gain.ensures.bound))

pub returns-clause-value : goal.returns-clause-value
returns-clause-value c =
    let gain : c.gain_over-gain.result ≡ fall_of c.args.first.now c.args.second.now =
    c.gain_over-gain.ensures.value ∙ ap (λ (z : ℕ). times (z / c.args.second.now.period) c.args.second.now.step) c.common_period.ensures.value in
    code c.lifts-lifts.result c.gain_over-gain.result c.lifts-lifts.ensures.bound c.gain_over-gain.ensures.bound
    ∙ ap (λ (z : ℕ). times z c.gain_over-gain.result) c.lifts-lifts.ensures.value ∙ ap (times (lifts_of c.args.first.now c.args.second.now)) gain

pub returns-clause-bound : goal.returns-clause-bound
returns-clause-bound c =
    let gain : c.gain_over-gain.result ≡ fall_of c.args.first.now c.args.second.now =
    c.gain_over-gain.ensures.value ∙ ap (λ (z : ℕ). times (z / c.args.second.now.period) c.args.second.now.step) c.common_period.ensures.value in
    let pos_n = c.common_period.ensures.right.canonical.form.period_positive in
    let same : to_z w128 (of_z w128 (to_z w128 c.lifts-lifts.result *ℤ to_z w128 (of_z w128 c.gain_over-gain.result))) ≡ times c.lifts-lifts.result (fall_of c.args.first.now c.args.second.now) =
    code c.lifts-lifts.result c.gain_over-gain.result c.lifts-lifts.ensures.bound c.gain_over-gain.ensures.bound ∙ ap (times c.lifts-lifts.result) gain in
    subst (λ (z : ℤ). unsigned_abs z ≤ greatest_moderate) (sym same)
    (lifted_bound c.lifts-lifts.result (period_with c.args.first.now c.args.second.now / c.args.second.now.period)
    c.args.second.now.period (period_with c.args.first.now c.args.second.now) c.args.second.now.step
    (common_second c.args.first.now.period c.args.second.now.period pos_n) pos_n c.lifts-lifts.ensures.covers c.gain_over-gain.ensures.series.small.step)
