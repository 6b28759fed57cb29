use Rattle.std.proofs.Common.{◌-◌}
use Rattle.settled_laws.specs.SettledForms.{settled_date}
use Rattle.endless_laws.specs.KeptRows.{KeepsRowTo}
use Rattle.endless_laws.proofs.kept_rows.is_kept_to.Given as goal

abbrev pub invariant-loop-number : goal.invariant-loop-number
invariant-loop-number l = KeepsRowTo (settled_date l.form) l.row (l.number - 1)
