use Rattle.std.proofs.Common.{◌≡◌, ◌-◌}
use Rattle.forever_laws.specs.settled_laws.SettledForms.{settled_date}
use Rattle.forever_laws.specs.LateSearches.{IsSoonest, turns_to}
use Rattle.teg_forever.proofs.late.soonest_late.Given as goal

abbrev pub invariant-loop-number : goal.invariant-loop-number
invariant-loop-number l = record {
  is : IsSoonest (settled_date l.row.settled) l.row.row l.fn.turn.past (l.number - 1) (l.fn.turn.rise - l.fn.turn.fall) l.best.number l.best.due l.best.least;
  turns : l.best.turns ≡ turns_to l.best.due l.best.least (l.fn.turn.rise - l.fn.turn.fall);
}
