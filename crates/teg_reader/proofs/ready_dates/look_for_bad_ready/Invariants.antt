use Rattle.std.proofs.Common.{◌≡◌, map, drop}
use Rattle.toml.specs.View.{view}
use Rattle.teg_reader.specs.PassWalks.{first_of_entries}
use Rattle.teg_reader.specs.ReadyDatePass.{bad_ready}
use Rattle.teg_reader.proofs.ready_dates.look_for_bad_ready.Given as goal

abbrev pub invariant-loop-place : goal.invariant-loop-place
invariant-loop-place l = first_of_entries bad_ready (map view (drop l.place-index l.places)) ≡ first_of_entries bad_ready (map view l.places)
