use Rattle.std.proofs.Common.{ℕ, ◌+◌, ◌*◌, ◌≡◌, List, length}
use Rattle.dioid.specs.declared.dates.Date.{Date}
use Rattle.teg_due.specs.declared.rows.DueRow.{DueRow}
use Rattle.dating_check.specs.MadeRows.{AreFrom, AreKept, IsLatestFor, IsMade}
use Rattle.dating_check.proofs.made_rows.pass_places.Given as goal

abbrev pub invariant-loop-placed : goal.invariant-loop-placed
invariant-loop-placed l = record {
  full : length l.dates ≡ l.numbers * length l.net.transitions;
  made : (rows : List DueRow) (y : ℕ → ℕ → Date) → IsLatestFor l.net rows y → IsMade l.net rows l.numbers l.number (length l.net.transitions) y l.initial.dates
      → IsMade l.net rows l.numbers l.number (length l.net.transitions) y l.dates × AreKept l.net l.order l.numbers l.number l.placed-index y l.dates;
  from : (fall : ℕ) → AreFrom fall l.initial.dates → AreFrom (fall + l.placed-index * 1000000000) l.dates;
}
