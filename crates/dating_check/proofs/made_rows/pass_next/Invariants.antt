use Rattle.std.proofs.Common.{ℕ, ◌*◌, ◌≡◌, List, length}
use Rattle.dioid.specs.declared.dates.Date.{Date}
use Rattle.teg_due.specs.declared.rows.DueRow.{DueRow}
use Rattle.dating_check.specs.MadeRows.{AreFrom, IsLatestFor, IsMade}
use Rattle.dating_check.proofs.made_rows.pass_next.Given as goal

abbrev pub invariant-loop-index : goal.invariant-loop-index
invariant-loop-index l = record {
  full : length l.dates ≡ l.numbers * length l.net.transitions;
  made : (rows : List DueRow) (y : ℕ → ℕ → Date) → IsLatestFor l.net rows y → IsMade l.net rows l.numbers l.number 0 y l.initial.dates → IsMade l.net rows l.numbers l.number l.index y l.dates;
  from : (fall : ℕ) → AreFrom fall l.initial.dates → AreFrom fall l.dates;
}
