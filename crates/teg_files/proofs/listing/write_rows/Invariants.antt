use Rattle.std.proofs.Common.{◌≡◌, ◌<◌, ◌+◌, ◌*◌, ℕ, length}
use Rattle.teg_report.specs.dioid.declared.dates.Date.{Date}
use Rattle.date_rows.specs.Streams.{AreFirstRowsOf, first_rows_given}
use Rattle.teg_report.specs.teg_model.Datings.{IsLeastDating}
use Rattle.teg_files.specs.WrittenLists.{piece}
use Rattle.teg_files.proofs.WrittenLists.{HasGathered}
use Rattle.teg_files.proofs.listing.write_rows.Given as goal

abbrev pub invariant-loop-number : goal.invariant-loop-number
invariant-loop-number g l = record {
  stands : AreFirstRowsOf l.net l.rows;
  number : first_rows_given l.rows ≡ l.number;
  row : length l.row ≡ length l.net.transitions;
  line : length l.line ≡ (length l.net.transitions + 1) * 41;
  block : length l.block ≡ piece + (length l.net.transitions + 1) * 41;
  filled : l.filled < piece;
  gathered : (x : ℕ → ℕ → Date) → IsLeastDating l.net x → HasGathered l.net x (g.W.Sink.state l.initial.out) (g.W.Sink.state l.out) l.block l.filled l.number;
}
