use Rattle.std.proofs.Common.{◌≡◌, ◌<◌, ◌*◌, ◌++◌, ◌∷◌, [], arith, rules}
use Rattle.std.proofs.Math.Nat.{mod-lt}
use Rattle.std.proofs.lemmas.Result.{err_from_is_err_and}
use Rattle.dioid_matrix.proofs.Cells.{row_below}
use Rattle.matrix_values.proofs.MeetTables.{meet_made, meet_misfits, meets_more}
use Rattle.matrix_values.proofs.meets.meet.Goals as goal

pub entry_meet-requires-clause-row : goal.entry_meet-requires-clause-row
entry_meet-requires-clause-row g c =
    let some = c.columns-columns.ensures.table.some_columns in
    let b = row_below c.loop-place.place c.rows-rows.result c.columns-columns.result (omega (arith, c.columns-columns.ensures.value, some)) c.loop-place-test.true in
    omega (arith, b, c.rows-rows.ensures.value)

pub entry_meet-requires-clause-column : goal.entry_meet-requires-clause-column
entry_meet-requires-clause-column g c =
    let wide = c.columns-columns.ensures.table.some_columns in
    let some : 0 < c.columns-columns.result = omega (arith, c.columns-columns.ensures.value, wide) in
    let below = mod-lt c.loop-place.place some in
    omega (arith, below, c.columns-columns.ensures.value, c.requires.columns)

pub returns-in_err-entry : goal.returns-in_err-entry
returns-in_err-entry g c =
    let columns = c.columns-columns.ensures.value in
    let refused = rw columns at c.in_err-entry.ensures.refused in
    let back = err_from_is_err_and c.from_residual.result c.from_residual.ensures.1 in
    rw (back.1, back.2) (meet_misfits g.D.Dioid g.D.Residuated c.args.left.now c.args.right.now c.loop-place.place c.requires.columns c.columns-columns.ensures.table.some_columns
    (rw (c.rows-rows.ensures.value, columns) at c.loop-place-test.true) (rw columns at c.loop-place.invariant.fit) _ refused)

pub loop-place-preserved : goal.loop-place-preserved
loop-place-preserved g c =
    let items : c.push.new.self.items ≡ c.loop-place.entries.items ++ (c.in_ok-entry.entry ∷ []) = search rules in
    rw items (meets_more g.D.Dioid g.D.Residuated c.args.left.now c.args.right.now c.columns-columns.result c.loop-place.place c.loop-place.entries.items c.in_ok-entry.entry
    c.loop-place.invariant c.in_ok-entry.ensures.fits c.in_ok-entry.ensures.value c.in_ok-entry.ensures.element)

pub returns : goal.returns
returns g c =
    let rows = c.rows-rows.ensures.value in
    let columns = c.columns-columns.ensures.value in
    let whole : c.loop-place.place ≡ c.rows-rows.result * c.columns-columns.result = search rules in
    let h = rw (whole, rows, columns) at c.loop-place.invariant in
    meet_made g.D.Dioid g.D.Residuated c.args.left.now c.args.right.now g.met.D.Residuated.residual_laws c.requires.columns c.rows-rows.ensures.table.elements
    c.columns-columns.ensures.table.elements c.loop-place.entries.items h _ (rw (rows, columns) at c.matrix_of.ensures)
