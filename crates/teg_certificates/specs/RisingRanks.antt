-- Ranks of transitions that show a net to be live (chapter 2).
use Rattle.std.specs.Prelude.{ℕ, ◌<◌, ◌≡◌, List, length, All, slice_index}
use Rattle.teg_net.specs.declared.entries.PlaceId.{PlaceId}
use Rattle.teg_net.specs.Nets.{NetLists}
use Rattle.teg_net.specs.Circuits.{place_at, from_of, IsLive}
use Rattle.teg_net.specs.Parts.{to_of}

-- one rank for each transition, rising strictly along each place without tokens
pub record AreRisingRanks (net : NetLists) (ranks : List ℕ) : Type 0 where
  pub count : length ranks ≡ length net.transitions
  pub rises : All (λ p. p.tokens ≡ 0 → slice_index ranks p.from.index < slice_index ranks p.to.index) net.places

-- a net is live where some rank of transitions rises strictly along each place without tokens
abbrev pub RisingRanksShowLive : Type 0
RisingRanksShowLive =
    (net : NetLists) (rank : ℕ → ℕ)
    → ((p : PlaceId) → p.index < length net.places → (place_at net p).tokens ≡ 0 → rank (from_of net p) < rank (to_of net p))
    → IsLive net

-- a net is live where ranks in a list rise so
abbrev pub ListedRanksShowLive : Type 0
ListedRanksShowLive = (net : NetLists) (ranks : List ℕ) → AreRisingRanks net ranks → IsLive net
