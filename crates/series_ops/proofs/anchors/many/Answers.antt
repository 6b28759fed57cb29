use Rattle.std.proofs.Common.{◌≤◌, ℤ, sym, subst}
use Rattle.std.specs.Int.RustNames.{unsigned_abs}
use Rattle.series_form.specs.SeriesLimits.{greatest_part_product}
use Rattle.series_ops.proofs.Many.{many_fits, many_code, many_bound}
use Rattle.series_ops.proofs.anchors.many.Goals as goal

pub overflow_mul-result : goal.overflow_mul-result
overflow_mul-result c = many_fits c.args.count c.args.number c.requires.count c.requires.number

pub returns-clause-value : goal.returns-clause-value
returns-clause-value c = many_code c.args.count c.args.number c.requires.count c.requires.number

pub returns-clause-bound : goal.returns-clause-bound
returns-clause-bound c = subst (λ (z : ℤ). unsigned_abs z ≤ greatest_part_product)
    (sym (many_code c.args.count c.args.number c.requires.count c.requires.number)) (many_bound c.args.count c.args.number c.requires.count c.requires.number)
