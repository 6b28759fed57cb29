use Rattle.std.proofs.Common.{◌≡◌, length}
use Rattle.teg_model.specs.Datings.{listed_releases}
use Rattle.dating_certificates.specs.CheckedRows.{date_in_rows}
use Rattle.dating_certificates.specs.TightRows.{AreTightUpTo}
use Rattle.dating_certificates.proofs.rows.are_tight.Given as goal

abbrev pub invariant-loop-before : goal.invariant-loop-before
invariant-loop-before l =
    (length l.row ≡ length l.net.transitions)
    × AreTightUpTo l.net (listed_releases l.net) (date_in_rows (length l.net.transitions) l.dates) l.before
