use Rattle.std.proofs.Common.{◌≡◌, ◌*◌, ◌++◌, ◌∷◌, [], ◌∙◌, arith, rules}
use Rattle.dioid_matrix.specs.Tables.{entry_of}
use Rattle.dioid_matrix.proofs.Cells.{row_below}
use Rattle.dioid_spectra.proofs.FilledTables.{made_more, made_all}
use Rattle.dioid_spectra.proofs.made.transpose.Goals as goal

pub entry-requires-clause-column : goal.entry-requires-clause-column
entry-requires-clause-column g c =
    let some = c.rows-columns.ensures.table.some_rows in
    let same = c.rows-columns.ensures.value in
    let b = row_below c.loop-place.place c.columns-rows.result c.rows-columns.result (omega (arith, some, same)) c.loop-place-test.true in
    omega (arith, b, c.columns-rows.ensures.value)

pub loop-place-preserved : goal.loop-place-preserved
loop-place-preserved g c =
    let items : c.push.new.self.items ≡ c.loop-place.entries.items ++ (c.in_ok-entry.entry ∷ []) = search rules in
    made_more g.D.Dioid c.rows-columns.result (λ i j. entry_of g.D.Dioid c.args.matrix.now j i) c.loop-place.place c.loop-place.entries.items c.push.new.self.items c.in_ok-entry.entry
    c.loop-place.invariant items (c.in_ok-entry.ensures.value ∙ c.entry.ensures.value) c.in_ok-entry.ensures.element

pub returns : goal.returns
returns g c =
    let whole : c.loop-place.place ≡ c.columns-rows.result * c.rows-columns.result = search rules in
    let made = made_all g.D.Dioid c.columns-rows.result c.rows-columns.result (λ i j. entry_of g.D.Dioid c.args.matrix.now j i) c.loop-place.entries.items _
    (rw whole at c.loop-place.invariant) c.matrix_of.ensures in
    rw (c.columns-rows.ensures.value, c.rows-columns.ensures.value) at made
