use Rattle.std.proofs.Common.{◌-◌}
use Rattle.forever_laws.specs.settled_laws.SettledForms.{settled_date}
use Rattle.forever_laws.specs.Late.{NoneLateTo}
use Rattle.teg_forever.proofs.late.late_listed.Given as goal

abbrev pub invariant-loop-number : goal.invariant-loop-number
invariant-loop-number l = NoneLateTo (settled_date l.row.settled) l.row.row (l.number - 1)
