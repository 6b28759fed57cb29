use Rattle.std.proofs.Common.{ℤ, ap, sym, subst}
use Rattle.std.specs.Int.{w128}
use Rattle.std.proofs.lemmas.Int.{to_z-of_z}
use Rattle.series_laws.specs.SeriesForms.{form_with}
use Rattle.series_ops.specs.Splits.{IsTailed}
use Rattle.series_ops.proofs.splits.Tail.new.Goals as goal

pub invariant_of-result : goal.invariant_of-result
invariant_of-result c = subst (λ (z : ℤ). IsTailed (form_with c.args.values.now c.args.period z)) (sym (to_z-of_z w128 c.args.step c.ranges.step)) c.requires

pub returns : goal.returns
returns c = ap (form_with c.args.values.now c.args.period) (to_z-of_z w128 c.args.step c.ranges.step)
