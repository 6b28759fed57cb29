use Rattle.std.proofs.Common.{◌-◌, ◌<◌, ◌≤◌}
use Rattle.teg_settle.specs.Prefixes.{AreCommonPrefixes, IsAgreeing, move_back}
use Rattle.teg_settle.proofs.prefixes.common_lengths.Given as goal

abbrev pub invariant-loop-at : goal.invariant-loop-at
invariant-loop-at l = record {
  lengths : AreCommonPrefixes (move_back l.rows l.transition.index) (l.rows.count - 1) l.at l.lengths.items;
  before : l.from < l.at;
  later : l.at < l.end → 1 ≤ l.from;
  within : l.end < l.rows.count;
  window : IsAgreeing (move_back l.rows l.transition.index) l.from (l.end - l.from);
}
