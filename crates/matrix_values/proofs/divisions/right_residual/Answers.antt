use Rattle.std.proofs.Common.{◌≡◌, rules}
use Rattle.matrix_values.proofs.TurnedTables.{right_made, right_refused}
use Rattle.matrix_values.proofs.divisions.right_residual.Goals as goal

pub returns-in-Ok : goal.returns-in-Ok
returns-in-Ok g c =
    let met = g.met.D.Dioid in
    let table = c.columns.ensures.table in
    let goes : c.args.divisor.now.columns ≡ c.args.bound.now.columns = search rules in
    right_made g.D.Dioid g.D.Residuated c.args.divisor.now c.args.bound.now c.in_ok-left.left c.in_ok-right.right c.in_ok-left.ensures c.in_ok-right.ensures goes
    met.closed met.laws c.requires table.elements table.some_columns c.in-Ok.residual _ c.in-Ok.ensures.answer c.in_ok-transpose-in-Ok.ensures

pub returns : goal.returns
returns g c =
    let goes : c.args.divisor.now.columns ≡ c.args.bound.now.columns = search rules in
    rw c.turned_refusal.ensures (right_refused g.D.Dioid g.D.Residuated c.args.divisor.now c.args.bound.now c.in_ok-left.left c.in_ok-right.right c.in_ok-left.ensures c.in_ok-right.ensures
    goes c.in-Err.why c.in-Err.ensures.answer)
