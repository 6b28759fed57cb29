use Rattle.dating_check.proofs.BegunRows.{IsBegun}
use Rattle.dating_check.proofs.made_rows.begin.Given as goal

abbrev pub invariant-loop-row : goal.invariant-loop-row
invariant-loop-row l = IsBegun l.net l.rows l.numbers l.dates.items l.row-index
