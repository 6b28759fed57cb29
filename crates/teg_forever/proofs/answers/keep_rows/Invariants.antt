use Rattle.std.proofs.Common.{All, take}
use Rattle.forever_laws.specs.settled_laws.SettledForms.{settled_date}
use Rattle.forever_laws.specs.Late.{NoneLate}
use Rattle.teg_forever.proofs.answers.keep_rows.Given as goal

abbrev pub invariant-loop-row : goal.invariant-loop-row
invariant-loop-row l = All (NoneLate (settled_date l.settled)) (take l.row-index l.due.rows)
