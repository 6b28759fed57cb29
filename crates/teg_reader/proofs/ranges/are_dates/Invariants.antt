use Rattle.std.proofs.Common.{◌≡◌, map, drop}
use Rattle.std.specs.List.{list_all}
use Rattle.toml.specs.View.{view}
use Rattle.teg_net.specs.Limits.{greatest_input_date}
use Rattle.teg_reader.specs.DocumentTrees.{is_between}
use Rattle.teg_reader.proofs.ranges.are_dates.Given as goal

abbrev pub invariant-loop-value : goal.invariant-loop-value
invariant-loop-value l = list_all (is_between 0 greatest_input_date) (map view (drop l.value-index l.values)) ≡ list_all (is_between 0 greatest_input_date) (map view l.values)
