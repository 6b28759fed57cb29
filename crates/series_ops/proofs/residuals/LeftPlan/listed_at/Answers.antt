use Rattle.std.proofs.Common.{◌≡◌, ◌<◌, ◌∙◌, ap, sym, arith, length}
use Rattle.series_laws.specs.SeriesForms.{size_of, value_at}
use Rattle.series_laws.proofs.FormValues.{table_length}
use Rattle.series_ops.specs.Cells.{conjugate_of}
use Rattle.series_ops.proofs.LeftParts.{left_by_sums}
use Rattle.series_ops.proofs.LeftSplits.{turned_length}
use Rattle.series_ops.proofs.residuals.LeftPlan.listed_at.Goals as goal

pub at-requires : goal.at-requires
at-requires c =
    let i = c.self.inside in
    let h = c.self.invariant in
    let size : length i.sums.list ≡ i.size = sym (turned_length i.sums.list) ∙ ap length h.are_values ∙ table_length (value_at i.second.now) i.size in
    let w : c.args.shift < size_of i.second.now = rw (← c.self.view_is) at c.requires in
    let reach = h.reach in
    omega arith

pub returns : goal.returns
returns c =
    let i = c.self.inside in
    let h = c.self.invariant in
    let w : c.args.shift < size_of i.second.now = rw (← c.self.view_is) at c.requires in
    let reach = h.reach in
    rw (← c.self.view_is) (c.conjugate.ensures ∙ ap conjugate_of c.at.ensures.value
    ∙ left_by_sums i.sums.form i.second.now h.left.canonical.form h.right.canonical.form h.decide i.sums.list i.size c.args.shift h.are_values (omega arith))
