use Rattle.std.proofs.Common.{◌≡◌, ◌≤◌, ◌<◌, ◌+◌, ◌*◌, ◌%◌, ℕ, ℤ, arith, subst, sym, ap, ◌∙◌, to_z, of_z}
use Rattle.std.specs.Prelude.{◌≤ℤ◌}
use Rattle.std.specs.Int.{w128}
use Rattle.std.specs.Int.RustNames.{unsigned_abs}
use Rattle.std.proofs.lemmas.Int.{ints, to_z-of_z}
use Rattle.std.proofs.Math.Nat.{mod-eq_of_lt}
use Rattle.series_laws.specs.SeriesForms.{value_at}
use Rattle.series_laws.specs.Needs.{later_start, lead_of}
use Rattle.series_form.specs.Leads.{NoGreaterLead, IsReach, integer_of_date, width_of}
use Rattle.series_form.specs.SeriesLimits.{greatest_moderate}
use Rattle.series_form.proofs.Heights.{covers_it, cycle_kept, le_through, led_on, reach_first}
use Rattle.series_form.proofs.leads.best_on_cycle.Goals as goal

pub loop-periods-init : goal.loop-periods-init
loop-periods-init c =
    let f = c.args.first.now in
    let g = c.args.second.now in
    let start = c.args.start in
    let low : start < width_of f g = c.requires.start in
    let number = to_z-of_z w128 c.number_at.result (record { sfits = c.number_at.type_inv }) in
    let known : to_z w128 (of_z w128 c.args.known) ≡ c.args.known = to_z-of_z w128 c.args.known (record { sfits = c.ranges.known.sfits }) in
    let begun = reach_first f g c.common_start.ensures.left.canonical.form c.common_start.ensures.right.canonical.form c.requires.gaining start low in
    let here : to_z w128 (of_z w128 c.number_at.result) ≡ integer_of_date (value_at g (later_start f g + start)) = number
    ∙ c.number_at.ensures.value ∙ ap (λ (z : ℕ). integer_of_date (value_at g (z + start))) c.common_start.ensures.value in
    let none : start + 0 * f.period ≡ start = omega arith in (
      subst (λ (z : ℤ). IsReach f g 0 start z) (sym here) begun,
      subst (λ (z : ℤ). unsigned_abs z ≤ greatest_moderate) (sym number) c.number_at.ensures.bound,
      ap (λ (z : ℕ). z % width_of f g) none ∙ mod-eq_of_lt low,
      record {
        kept = omega (arith, ints);
        no_more = subst (λ (z : ℤ). z ≤ℤ lead_of f g) (sym known) c.requires.known;
        led = λ k p j some within w same l. absurd (omega arith);
      },
    )

pub step_back-reach-requires-clause-bound : goal.step_back-reach-requires-clause-bound
step_back-reach-requires-clause-bound c = c.loop-periods.invariant.1

pub loop-periods-preserved : goal.loop-periods-preserved
loop-periods-preserved c =
    let f = c.args.first.now in
    let g = c.args.second.now in
    let start = c.args.start in
    let m = c.loop-periods.periods in
    let isf = c.common_start.ensures.left.canonical.form in
    let isg = c.common_start.ensures.right.canonical.form in
    let old : ℤ = to_z w128 c.loop-periods.best-bits in
    let place = c.step_back-reach.result.place in
    let height = c.step_back-reach.result.height in
    let best : to_z w128 (of_z w128 c.better-best.result) ≡ c.better-best.result = to_z-of_z w128 c.better-best.result (record { sfits = c.better-best.type_inv }) in
    let at : (place + (m + 1) * f.period) % width_of f g ≡ start =
    ap (λ (z : ℕ). (z + (m + 1) * f.period) % width_of f g) c.step_back-reach.ensures.place ∙ cycle_kept f g m c.loop-periods.reach.place start (covers_it f g isf isg) c.loop-periods.invariant.2 in
    let on = led_on f g start m place height (to_z w128 c.loop-periods.best-bits) (to_z w128 (of_z w128 c.better-best.result)) isf isg c.requires.gaining
    c.loop-periods.invariant.3.no_more c.loop-periods.invariant.3.led c.step_back-reach.ensures.reach at (best ∙ c.better-best.ensures) in
    let long : m + 2 ≡ m + 1 + 1 = omega arith in (
      c.step_back-reach.ensures.reach,
      subst (λ (z : ℕ). unsigned_abs height ≤ z * greatest_moderate) long c.step_back-reach.ensures.bound,
      at,
      record {
        kept = le_through _ _ _ c.loop-periods.invariant.3.kept on.kept;
        no_more = on.no_more;
        led = on.led;
      },
    )

pub returns-clause-led : goal.returns-clause-led
returns-clause-led c =
    let f = c.args.first.now in
    let g = c.args.second.now in
    let whole : c.loop-periods.periods ≡ 2 * c.args.turns = omega arith in
    subst (λ (z : ℕ). NoGreaterLead f g c.args.start z (to_z w128 c.loop-periods.best-bits)) whole c.loop-periods.invariant.3.led
