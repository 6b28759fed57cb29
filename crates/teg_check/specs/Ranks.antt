-- What ranks of a net are. A value stands for a net where its list of ranks is a ranking of it.
use Rattle.std.specs.Prelude.{ℕ, ◌<◌, ◌≤◌, ◌≡◌, List, length, All, slice_index}
use Rattle.teg_net.specs.declared.entries.PlaceId.{PlaceId}
use Rattle.teg_net.specs.Changes.{with_hold, with_tokens}
use Rattle.teg_net.specs.Nets.{NetLists}
use Rattle.teg_net.specs.Circuits.{IsLive, place_at}

-- one rank for each transition, below their number, rising strictly along each place without tokens
pub record IsRanking (net : NetLists) (ranks : List ℕ) : Type 0 where
  pub count : length ranks ≡ length net.transitions
  pub small : All (λ r. r < length net.transitions) ranks
  pub rises : All (λ p. p.tokens ≡ 0 → slice_index ranks p.from.index < slice_index ranks p.to.index) net.places

-- a net for which ranks stand is live
abbrev pub RankedNetsAreLive : Type 0
RankedNetsAreLive = (net : NetLists) (ranks : List ℕ) → IsRanking net ranks → IsLive net

-- ranks stand for a net with another holding time too
abbrev pub HoldsKeepRankings : Type 0
HoldsKeepRankings = (net : NetLists) (ranks : List ℕ) (id : PlaceId) (hold : ℕ) → id.index < length net.places → IsRanking net ranks → IsRanking (with_hold net id hold) ranks

-- and with more tokens in a place
abbrev pub MoreTokensKeepRankings : Type 0
MoreTokensKeepRankings = (net : NetLists) (ranks : List ℕ) (id : PlaceId) (tokens : ℕ) → id.index < length net.places → (place_at net id).tokens ≤ tokens
    → IsRanking net ranks → IsRanking (with_tokens net id tokens) ranks
