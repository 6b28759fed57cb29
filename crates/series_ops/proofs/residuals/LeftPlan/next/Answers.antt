use Rattle.std.proofs.Common.{◌≡◌, ◌-◌, ◌-ℤ◌, ◌∙◌, ℕ, ℤ, pos, ap, arith, length, get_or}
use Rattle.dioid.specs.Dates.{date_left}
use Rattle.dioid.specs.declared.dates.Date.TheVariants.{Early, At}
use Rattle.series_laws.specs.SeriesForms.{size_of, table}
use Rattle.series_laws.specs.ProductNeeds.{left_over}
use Rattle.series_ops.proofs.LeftParts.{left_later_is, overs_up_to, negative_code}
use Rattle.series_ops.proofs.residuals.LeftPlan.next.Goals as goal

pub subtracted-requires-clause-second : goal.subtracted-requires-clause-second
subtracted-requires-clause-second c =
    let h = c.self.invariant in
    let f = c.self.inside.sums.form in
    let g = c.self.inside.second.now in
    let count = c.requires.count in
    let values : c.args.values.now ≡ table (left_over f g) (length c.args.values.now) = rw (← c.self.view_is) at c.requires.values in
    overs_up_to f g h.left h.right h.few (length c.args.values.now) c.args.values.now (omega arith) values
    (length c.args.values.now - c.period.result)

pub returns : goal.returns
returns c =
    let h = c.self.invariant in
    let f = c.self.inside.sums.form in
    let g = c.self.inside.second.now in
    let values : c.args.values.now ≡ table (left_over f g) (length c.args.values.now) = rw (← c.self.view_is) at c.requires.values in
    let second : length c.values.result.now ≡ size_of g = ap length c.values.ensures.value in
    let high = c.if-shift-values.false in
    rw (← c.self.view_is) (c.subtracted.ensures
    ∙ ap (λ (z : ℤ). date_left (At z) (get_or c.args.values.now (length c.args.values.now - c.period.result) Early))
    (negative_code c.step.result g.step c.step.ensures.value h.right.small.step)
    ∙ ap (λ (z : ℕ). date_left (At (pos 0 -ℤ g.step)) (get_or c.args.values.now (length c.args.values.now - z) Early)) c.period.ensures.value
    ∙ left_later_is f g h.left.canonical.form h.right.canonical.form h.decide c.args.values.now (length c.args.values.now) values (omega arith))
