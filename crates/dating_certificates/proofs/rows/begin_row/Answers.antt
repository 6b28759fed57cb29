use Rattle.std.proofs.Common.{length, refl}
use Rattle.teg_model.specs.Datings.{listed_releases}
use Rattle.dating_certificates.specs.CheckedRows.{date_in_rows}
use Rattle.dating_certificates.proofs.RowWaits.{begun_more}
use Rattle.dating_certificates.proofs.rows.begin_row.Goals as goal

pub loop-index-preserved : goal.loop-index-preserved
loop-index-preserved c =
    let net = c.args.net.now in
    let x = date_in_rows (length net.transitions) c.args.dates.now in
    let in' = rw c.transitions-width.ensures.value at c.loop-index-test.true in
    begun_more net (listed_releases net) x c.get-number.result c.loop-index.row c.loop-index.index c.later.result in' c.loop-index.invariant
    (rw (c.later.ensures.value, c.date_before.ensures, c.release.ensures, c.new-id.ensures) refl)
