use Rattle.std.proofs.Common.{◌≡◌, false, refl, replicate, arith, rules}
use Rattle.teg_parts.proofs.Marks.{unmarked_less}
use Rattle.matrix_values.specs.RowReach.{IsOpenRow}
use Rattle.matrix_values.proofs.ReachLaws.{reach_begins, reach_more}
use Rattle.matrix_values.proofs.reach.reached.Goals as goal

pub search-init : goal.search-init
search-init c =
    let some = c.rows.ensures.table.some_rows in
    let filled : c.in_ok-marks.marks.items ≡ replicate c.rows.result false = c.in_ok-marks.ensures.items_if_clones_equal (search rules) in
    reach_begins c.args.a.now c.rows.result c.in_ok-marks.marks.items _ c.rows.ensures.value (omega (arith, c.rows.ensures.value, some)) filled refl

pub search-preserved : goal.search-preserved
search-preserved c =
    let is : IsOpenRow c.args.a.now c.search.marks.items c.in-Some.row = rw c.deref.ensures.value at c.in-Some.ensures.some in
    reach_more c.args.a.now c.search.marks.items _ c.in-Some.row c.search.invariant is refl

pub search-smaller : goal.search-smaller
search-smaller c =
    let is : IsOpenRow c.args.a.now c.search.marks.items c.in-Some.row = rw c.deref.ensures.value at c.in-Some.ensures.some in
    let count = c.search.invariant.count in
    let within = is.in_rows in
    let fewer = unmarked_less c.search.marks.items c.in-Some.row (omega (arith, count, within)) is.off in
    omega (arith, fewer)
