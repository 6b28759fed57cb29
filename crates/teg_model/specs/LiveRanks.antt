-- Ranks of transitions, which a live net has.
use Rattle.std.specs.Prelude.{ℕ, ◌<◌, ◌≡◌, List, All}
use Rattle.teg_net.specs.declared.entries.Place.{Place}
use Rattle.teg_net.specs.Nets.{NetLists}
pub use Rattle.teg_net.specs.Nets.{HasEndsInRange}

-- ranks below a bound that rise strictly along each place without tokens
pub record AreRanks (places : List Place) (bound : ℕ) (rank : ℕ → ℕ) : Type 0 where
  pub below : (t : ℕ) → rank t < bound
  pub rise : All (λ p. p.tokens ≡ 0 → rank p.from.index < rank p.to.index) places

-- the transitions have ranks along these places
abbrev pub HaveRanks : List Place → Type 0
HaveRanks places = (bound : ℕ) × (rank : ℕ → ℕ) × AreRanks places bound rank

-- the transitions of the net have ranks
abbrev pub IsRanked : NetLists → Type 0
IsRanked net = HaveRanks net.places
