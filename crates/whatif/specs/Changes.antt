-- A net with one number of a place changed, and its pace with each change of a list (chapter 2).
use Rattle.std.specs.Prelude.{ℕ, ◌+◌, ◌<◌, ◌≤◌, ◌≡◌, List, Option, length, slice_index_or}
use Rattle.teg_net.specs.Changes.{MayHaveTokens, with_hold, with_tokens}
use Rattle.teg_net.specs.Circuits.{place_at}
use Rattle.teg_net.specs.Limits.{greatest_hold}
use Rattle.teg_net.specs.Nets.{NetLists}
use Rattle.teg_net.specs.Ratios.{Fraction}
use Rattle.pace_calls.specs.Paces.{IsPace}
use Rattle.whatif.specs.declared.changes.Change.{Change}
use Rattle.whatif.specs.declared.changes.Change.TheVariants.{Hold, Tokens}

-- the net has the place, which may have this holding time or so many more tokens
abbrev pub MayChange : NetLists → Change → Type 0
MayChange net (Hold place hold) = (place.index < length net.places) × (hold ≤ greatest_hold)
MayChange net (Tokens place more) = (place.index < length net.places) × MayHaveTokens (place_at net place) ((place_at net place).tokens + more)

-- the net with the change
abbrev pub with_change : NetLists → Change → NetLists
with_change net (Hold place hold) = with_hold net place hold
with_change net (Tokens place more) = with_tokens net place ((place_at net place).tokens + more)

-- as many paces as changes, and that of number k is the pace of the net with change k
pub record ArePaces (net : NetLists) (changes : List Change) (paces : List (Option Fraction)) : Type 0 where
  pub count : length paces ≡ length changes
  pub each : (k : ℕ) (c : Change) (r : Option Fraction) → k < length changes → IsPace (with_change net (slice_index_or changes k c)) (slice_index_or paces k r)
