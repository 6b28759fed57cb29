use Rattle.std.proofs.Common.{ℕ, subst}
use Rattle.series_ops.specs.Pieces.{ArePieceSums}
use Rattle.series_ops.proofs.BegunLaws.{begun_whole}
use Rattle.series_ops.proofs.beginnings.renewed.Goals as goal

pub returns : goal.returns
returns c =
    let sums : ArePieceSums c.in_ok-sums.sums.items c.args.first.now c.args.second.now 0 c.args.span.count =
    subst (λ (z : ℕ). ArePieceSums c.in_ok-sums.sums.items c.args.first.now c.args.second.now z c.args.span.count) c.requires.first_places c.in_ok-sums.ensures in
    begun_whole c.len-count.result c.in_ok-sums.sums.items c.args.first.now c.args.second.now c.args.span.count sums c.len-count.ensures.value
