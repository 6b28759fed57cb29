use Rattle.std.proofs.Common.{◌≡◌}
use Rattle.date_rows.specs.KeptRows.{AreLeastRows}
use Rattle.state_laws.specs.NetsLeft.{system_after}
use Rattle.dispatch.proofs.forecast.outlook.Given as goal

abbrev pub invariant-loop-number : goal.invariant-loop-number
invariant-loop-number l = (l.rows.count ≡ l._number) × AreLeastRows l.held (system_after l.held l.run l.now) l.rows
