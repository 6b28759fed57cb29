-- How long tokens wait in a place: at most so long for ever, just where both ends have one slope (chapters 2 and 6).
use Rattle.std.specs.Prelude.{ℕ, ◌+◌, ◌*◌, ◌<◌, ◌≤◌, ◌≡◌, ◌↔◌, length}
use Rattle.growth_laws.specs.Growth.{IsEndless}
use Rattle.teg_model.specs.dioid.declared.dates.Date.{Date}
use Rattle.teg_model.specs.dioid.Dates.{IsAtMostDate, delayed}
use Rattle.teg_model.specs.teg_net.declared.entries.PlaceId.{PlaceId}
use Rattle.teg_model.specs.teg_net.declared.entries.Place.{Place}
use Rattle.teg_model.specs.teg_net.Nets.{NetLists, HasEndsInRange, HasListsOfInputs, HasRisingLists, HasListsByRule}
use Rattle.teg_model.specs.teg_net.Circuits.{place_at, from_of, IsLive}
use Rattle.teg_model.specs.teg_net.Parts.{to_of}
use Rattle.teg_model.specs.Datings.{IsFeasibleUnder, IsLeastDating}
use Rattle.slope_laws.specs.Slopes.{IsSlope}

-- no token that a firing of the place's start gives waits there for more than `bound` past its hold
abbrev pub WaitsAtMost : (ℕ → ℕ → Date) → Place → ℕ → Type 0
WaitsAtMost x p bound = (k : ℕ) → 1 ≤ k → IsAtMostDate (x p.to.index (k + p.tokens)) (delayed (p.hold + bound) (x p.from.index k))

-- some number bounds the waits in the place
abbrev pub HasBoundedWaits : (ℕ → ℕ → Date) → Place → Type 0
HasBoundedWaits x p = (bound : ℕ) × WaitsAtMost x p bound

-- never more than `most` tokens wait there at once: when the one that firing k of the place's start gives is taken, that of
-- firing k + most is there at that date at the earliest
abbrev pub HoldsAtMost : (ℕ → ℕ → Date) → Place → ℕ → Type 0
HoldsAtMost x p most = (k : ℕ) → 1 ≤ k → IsAtMostDate (x p.to.index (k + p.tokens)) (delayed p.hold (x p.from.index (k + most)))

-- at this date the token of firing k of the place's start is there, and not yet taken
pub record IsWaitingAt (x : ℕ → ℕ → Date) (p : Place) (date : Date) (k : ℕ) : Type 0 where
  pub some : 1 ≤ k
  pub there : IsAtMostDate (delayed p.hold (x p.from.index k)) date
  pub not_taken : ¬ IsAtMostDate (x p.to.index (k + p.tokens)) date

-- `HoldsAtMost` says just that at no date two tokens wait whose numbers are `most` or more apart
abbrev pub StockIsWhatWaits : Type 0
StockIsWhatWaits = (net : NetLists) → HasEndsInRange net → (u x : ℕ → ℕ → Date) → IsFeasibleUnder net u x → (p : PlaceId) → p.index < length net.places → (most : ℕ)
    → HoldsAtMost x (place_at net p) most ↔ ((date : Date) (j k : ℕ) → IsWaitingAt x (place_at net p) date j → IsWaitingAt x (place_at net p) date k → j < k + most)

-- some number bounds the tokens that wait
abbrev pub HasBoundedStock : (ℕ → ℕ → Date) → Place → Type 0
HasBoundedStock x p = (most : ℕ) × HoldsAtMost x p most

-- some token waits for longer than `bound`
abbrev pub WaitsLonger : (ℕ → ℕ → Date) → Place → ℕ → Type 0
WaitsLonger x p bound = (k : ℕ) × (1 ≤ k) × ¬ IsAtMostDate (x p.to.index (k + p.tokens)) (delayed (p.hold + bound) (x p.from.index k))

-- dates rise no slower at the end of the place; waits are bounded just where both ends have one slope, and pass each bound where the
-- end has the greater one; where the start has a slope above 0, it is so with the tokens that wait at once
pub record AreWaitsBySlopes (x : ℕ → ℕ → Date) (p : Place) (a b c d : ℕ) : Type 0 where
  pub rises : a * d ≤ c * b
  pub waits : (a * d ≡ c * b) ↔ HasBoundedWaits x p
  pub longer : a * d < c * b → (bound : ℕ) → WaitsLonger x p bound
  pub stock : 1 ≤ a → (a * d ≡ c * b) ↔ HasBoundedStock x p

-- so it is in a live net for each place whose end no ended list reaches, with slopes a / b of its start and c / d of its end
abbrev pub WaitsAreBoundedByEqualSlopes : Type 0
WaitsAreBoundedByEqualSlopes =
    (net : NetLists) → HasEndsInRange net → HasListsOfInputs net → HasRisingLists net → HasListsByRule net → IsLive net
    → (x : ℕ → ℕ → Date) → IsLeastDating net x
    → (p : PlaceId) → p.index < length net.places → IsEndless net (to_of net p)
    → (a b c d : ℕ) → 1 ≤ b → 1 ≤ d → IsSlope net (from_of net p) b a → IsSlope net (to_of net p) d c
    → AreWaitsBySlopes x (place_at net p) a b c d
