use Rattle.std.proofs.Common.{◌≡◌, ◌≤◌}
use Rattle.delay_laws.specs.Delays.{IsReleaseAt}
use Rattle.teg_net.specs.Limits.{greatest_input_date}
use Rattle.release_nets.specs.ReleaseNetsBuilt.{ArePlannedReleases}
use Rattle.release_nets.proofs.releases.releases.Given as goal

abbrev pub invariant-loop-index : goal.invariant-loop-index
invariant-loop-index l = record {
  dates : ArePlannedReleases l.planned.period l.planned.table.now l.transition l.index l.dates.items;
  none : l.index ≡ 0 → l.latest ≡ 0;
  latest : 1 ≤ l.index → IsReleaseAt l.planned.period l.planned.table.now l.transition l.index l.latest;
  small : l.latest ≤ greatest_input_date;
}
