use Rattle.std.proofs.Common.{◌≡◌, map, take}
use Rattle.toml.specs.View.{view}
use Rattle.teg_reader.specs.Migrated.{number_data}
use Rattle.teg_reader.proofs.writer.date_values.Given as goal

abbrev pub invariant-loop-date : goal.invariant-loop-date
invariant-loop-date l = map view l.values.items ≡ map number_data (take l.date-index l.dates)
