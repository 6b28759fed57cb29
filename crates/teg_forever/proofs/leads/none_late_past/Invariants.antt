use Rattle.std.proofs.Common.{ℕ, ◌<◌, ◌≤◌, ◌*◌}
use Rattle.forever_laws.specs.settled_laws.SettledForms.{settled_date}
use Rattle.teg_net.specs.Limits.{greatest_every}
use Rattle.teg_forever.specs.LateFirings.{NoneLateInClass, most_cycle}
use Rattle.teg_forever.proofs.leads.none_late_past.Given as goal

abbrev pub invariant-loop-rest : goal.invariant-loop-rest
invariant-loop-rest l = record {
  few : l.places ≤ most_cycle * greatest_every;
  none : (rest : ℕ) → rest < l.rest → NoneLateInClass (settled_date l.row.settled) l.row.row l.fn.past l.places (record { divisor = l.divisor; rest = rest });
}
