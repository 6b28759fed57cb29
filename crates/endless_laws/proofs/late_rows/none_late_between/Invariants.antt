use Rattle.std.proofs.Common.{◌-◌}
use Rattle.settled_laws.specs.SettledForms.{settled_date}
use Rattle.endless_laws.specs.LateRows.{NoneLateBetween}
use Rattle.endless_laws.proofs.late_rows.none_late_between.Given as goal

abbrev pub invariant-loop-number : goal.invariant-loop-number
invariant-loop-number l = NoneLateBetween (settled_date l.form) l.row l.past (l.number - 1)
