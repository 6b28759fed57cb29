-- A net with other ready dates of a place, and what the change leaves as it was (chapter 2).
use Rattle.std.specs.Prelude.{ℕ, List, ◌<◌, ◌≤◌, ◌≡◌, ◌↔◌, ◌⊎◌, All, Any, length}
use Rattle.teg_net.specs.declared.entries.Place.{Place}
use Rattle.teg_net.specs.declared.entries.PlaceId.{PlaceId}
use Rattle.teg_net.specs.Changes.{with_place}
use Rattle.teg_net.specs.Circuits.{place_at, IsCircuit, time_of, tokens_of}
use Rattle.teg_net.specs.Limits.{greatest_input_date}
use Rattle.teg_net.specs.Nets.{NetLists, IsNet}
use Rattle.teg_check.specs.Ranks.{IsRanking}
use Rattle.ready_changes.specs.declared.refusal.NotReady.{NotReady}
use Rattle.ready_changes.specs.declared.refusal.NotReady.TheVariants.{Count, Late, OutOfMemory}

-- the place with these ready dates
abbrev pub place_with_ready : List ℕ → Place → Place
place_with_ready ready p = record { name = p.name; from = p.from; to = p.to; hold = p.hold; tokens = p.tokens; ready = ready }

-- the net with these ready dates of the place of this number
abbrev pub with_ready : NetLists → PlaceId → List ℕ → NetLists
with_ready net id ready = with_place net id (place_with_ready ready (place_at net id))

-- no date, which means that all tokens are ready at 0, or one for each token
abbrev pub AreForTokens : Place → List ℕ → Type 0
AreForTokens p ready = (length ready ≡ 0) ⊎ (length ready ≡ p.tokens)

-- a place of a net may have these ready dates, with the tokens that it has
pub record MayHaveReady (p : Place) (ready : List ℕ) : Type 0 where
  pub all : AreForTokens p ready
  pub in_time : All (λ d. d ≤ greatest_input_date) ready

-- the first rule that the dates break
abbrev pub IsReadyRefusalOf : Place → List ℕ → NotReady → Type 0
IsReadyRefusalOf p ready Count = AreForTokens p ready → ⊥
IsReadyRefusalOf p ready Late = AreForTokens p ready × Any (λ d. greatest_input_date < d) ready
IsReadyRefusalOf p ready OutOfMemory = ⊥

-- the first rule that the dates break, or want of memory where they break none
abbrev pub IsReadyRefusal : Place → List ℕ → NotReady → Type 0
IsReadyRefusal p ready Count = IsReadyRefusalOf p ready Count
IsReadyRefusal p ready Late = IsReadyRefusalOf p ready Late
IsReadyRefusal p ready OutOfMemory = MayHaveReady p ready

-- ranks of a net stand for it with other ready dates of a place too: they look at places and tokens alone
abbrev pub ReadyDatesKeepRankings : Type 0
ReadyDatesKeepRankings =
    (net : NetLists) (ranks : List ℕ) (id : PlaceId) (ready : List ℕ) → id.index < length net.places → IsRanking net ranks → IsRanking (with_ready net id ready) ranks

-- the circuits stay, with the time and the tokens of each
abbrev pub ReadyDatesKeepCircuits : Type 0
ReadyDatesKeepCircuits =
    (net : NetLists) (id : PlaceId) (ready : List ℕ) (ps : List PlaceId)
    → (IsCircuit (with_ready net id ready) ps ↔ IsCircuit net ps)
    × (time_of (with_ready net id ready) ps ≡ time_of net ps)
    × (tokens_of (with_ready net id ready) ps ≡ tokens_of net ps)

-- other ready dates and then the place's own lead back to the net, and its own may be set
pub record ReadyDatesGoBackTo (net : NetLists) (id : PlaceId) (ready : List ℕ) : Type 0 where
  pub same : with_ready (with_ready net id ready) id (place_at net id).ready ≡ net
  pub keeps : IsNet net → MayHaveReady (place_at (with_ready net id ready) id) (place_at net id).ready

-- ready dates that are changed back leave the net as it was
abbrev pub ReadyDatesGoBack : Type 0
ReadyDatesGoBack = (net : NetLists) (id : PlaceId) (ready : List ℕ) → id.index < length net.places → ReadyDatesGoBackTo net id ready
