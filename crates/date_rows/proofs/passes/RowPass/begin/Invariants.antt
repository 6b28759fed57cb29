use Rattle.std.proofs.Common.{length, map}
use Rattle.date_rows.proofs.Beginning.{BegunTo}
use Rattle.date_rows.proofs.passes.RowPass.begin.Given as goal

abbrev pub invariant-loop-index : goal.invariant-loop-index
invariant-loop-index g l =
    let pass = l.self-inside in
    BegunTo (g.S.Source.initial pass.source.now) (g.S.Source.release pass.source.now pass.net.now) (length pass.net.now.transitions) pass.number
    (g.P.Past.rows pass.past.now).back (map g.C.DateCell.held l.row) l.index
