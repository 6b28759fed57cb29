use Rattle.std.proofs.Common.{◌+◌, ◌*◌, ◌-◌, ◌<◌, ◌≤◌}
use Rattle.teg_report.specs.teg_model.Datings.{listed_releases, system_of}
use Rattle.date_rows.specs.KeptRows.{AreLeastRows}
use Rattle.teg_date_commands.proofs.one_date.date_by_both.Given as goal

abbrev pub invariant-stages : goal.invariant-stages
invariant-stages l = record {
  rows : AreLeastRows l.net (system_of l.net (listed_releases l.net)) l.rows;
  fewer : l.rows.count < l.count;
  few : l.count ≤ 2 * l.most;
}

abbrev pub decreases-stages : goal.decreases-stages
decreases-stages l = l.most + 1 - l.count
