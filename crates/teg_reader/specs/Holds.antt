-- The last pass: holds that durations make too great.
use Rattle.std.specs.Prelude.{ℕ, ◌+◌, nat_le, if◌then◌else◌, List, Option, Some, None}
use Rattle.std.specs.Option.{option_map_or}
use Rattle.toml.specs.Data.{Data}
use Rattle.teg_net.specs.Limits.{greatest_hold}
use Rattle.teg_reader.specs.declared.keys.Key.TheVariants as key
use Rattle.teg_reader.specs.declared.refusals.ReadRefusal.{ReadRefusal}
use Rattle.teg_reader.specs.declared.refusals.ReadRefusal.TheVariants as refusal
use Rattle.teg_reader.specs.DocumentTrees.{text_at, number_at, entry_named}
use Rattle.teg_reader.specs.EventGraphs.{end_at}

-- the duration of the transition of this name, or 0
unfoldable pub duration_named : List Data → List ℕ → ℕ
duration_named transitions text = option_map_or (number_at key.Duration) (entry_named text transitions) 0

-- the hold of the place: that of its entry and the duration of its upstream transition
unfoldable pub hold_with_duration : List Data → Data → ℕ
hold_with_duration transitions d = number_at key.Hold d + duration_named transitions (end_at key.From d)

-- the hold of the place is too great
unfoldable pub too_slow : List Data → Data → Option ReadRefusal
too_slow transitions d =
    if nat_le (hold_with_duration transitions d) greatest_hold then None else Some (refusal.TooSlow (text_at key.Name d))
