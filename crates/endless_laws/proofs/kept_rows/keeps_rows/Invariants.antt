use Rattle.std.proofs.Common.{All, take}
use Rattle.settled_laws.specs.SettledForms.{settled_date}
use Rattle.endless_laws.specs.KeptRows.{KeepsRow}
use Rattle.endless_laws.proofs.kept_rows.keeps_rows.Given as goal

abbrev pub invariant-loop-row : goal.invariant-loop-row
invariant-loop-row l = All (KeepsRow (settled_date l.form)) (take l.row-index l.rows)
