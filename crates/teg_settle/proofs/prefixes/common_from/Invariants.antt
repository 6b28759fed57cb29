use Rattle.std.proofs.Common.{◌+◌, ◌-◌, ◌<◌}
use Rattle.teg_settle.specs.Prefixes.{IsAgreeing, move_back}
use Rattle.teg_settle.proofs.prefixes.common_from.Given as goal

abbrev pub invariant-common : goal.invariant-common
invariant-common l = record {
  within : l.at + l.length < l.rows.count;
  same : IsAgreeing (move_back l.rows l.transition.index) l.at l.length;
}

abbrev pub decreases-common : goal.decreases-common
decreases-common l = l.rows.count - (l.at + l.length)
