use Rattle.std.proofs.Common.{◌≡◌, map, drop}
use Rattle.toml.specs.View.{view}
use Rattle.teg_reader.specs.PassWalks.{first_of_entries}
use Rattle.teg_reader.specs.Holds.{too_slow}
use Rattle.teg_reader.proofs.holds.look_for_slow_places.Given as goal

abbrev pub invariant-loop-place : goal.invariant-loop-place
invariant-loop-place l =
    first_of_entries (too_slow (map view l.transitions)) (map view (drop l.place-index l.places)) ≡ first_of_entries (too_slow (map view l.transitions)) (map view l.places)
