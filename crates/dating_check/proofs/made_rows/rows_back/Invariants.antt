use Rattle.std.proofs.Common.{ℕ, ◌-◌, ◌*◌, ◌≡◌, length}
use Rattle.dioid.specs.declared.dates.Date.{Date}
use Rattle.dating_check.specs.MadeRows.{AreFrom, IsLatestFor, IsMade}
use Rattle.dating_check.proofs.made_rows.rows_back.Given as goal

abbrev pub invariant-loop-done : goal.invariant-loop-done
invariant-loop-done l = record {
  full : length l.dates.items ≡ l.numbers * length l.net.transitions;
  made : (y : ℕ → ℕ → Date) → IsLatestFor l.net l.rows y → IsMade l.net l.rows l.numbers (l.numbers - l.done) 0 y l.dates.items;
  from : AreFrom (l.done * 4000000000000) l.dates.items;
}
