use Rattle.std.proofs.Common.{◌≡◌, ◌*◌, arith, refl, rules}
use Rattle.matrix_values.proofs.SameTables.{same_tables}
use Rattle.matrix_values.proofs.comparisons.equals.Goals as goal

pub returns : goal.returns
returns g c =
    let left = c.args.left.now in
    let right = c.args.right.now in
    let rows : left.rows ≡ right.rows = omega (arith, c.rows-rows.ensures.value, c.rows.ensures.value, c.if-rows.false) in
    let columns : left.columns ≡ right.columns = omega (arith, c.columns-columns.ensures.value, c.columns.ensures.value, c.if-columns.false) in
    let whole : c.loop-place.place ≡ c.rows-rows.result * c.columns-columns.result = search rules in
    let each = rw (whole, c.rows-rows.ensures.value, c.columns-columns.ensures.value) at c.loop-place.invariant in
    ((λ _. same_tables g.D.Dioid left right c.rows-rows.ensures.table c.rows.ensures.table rows columns each), (λ _. refl))
