use Rattle.std.proofs.Common.{◌≡◌}
use Rattle.teg_model.specs.Datings.{listed_releases, system_of}
use Rattle.date_rows.specs.KeptRows.{IsRows, AreLeastRows}
use Rattle.date_rows.proofs.first.first_dates.Given as goal

abbrev pub invariant-loop-number : goal.invariant-loop-number
invariant-loop-number l = record {
  count : l.rows.count ≡ l._number;
  limits : IsRows l.rows;
  least : AreLeastRows l.net (system_of l.net (listed_releases l.net)) l.rows;
}
