-- Working definitions of how a path is read: where it starts.
use Rattle.std.specs.Prelude.{ℕ, ◌<◌, ◌≤◌, ◌≡◌, List, [], ◌∷◌, length, All, slice_index_or}
use Rattle.teg_net.specs.declared.entries.PlaceId.{PlaceId}
use Rattle.teg_net.specs.Nets.{NetLists}
use Rattle.teg_net.specs.Circuits.{from_of}

-- the first place is one of the net, and leaves this transition
abbrev pub IsPathStart : NetLists → List PlaceId → ℕ → Type 0
IsPathStart net [] start = ⊥
IsPathStart net (p ∷ ps) start = (p.index < length net.places) × (from_of net p ≡ start)

-- the place at k leaves the lowest numbered transition
abbrev pub IsLowestAt : NetLists → List PlaceId → ℕ → Type 0
IsLowestAt net ps k = (k < length ps) × All (λ p. from_of net (slice_index_or ps k p) ≤ from_of net p) ps
