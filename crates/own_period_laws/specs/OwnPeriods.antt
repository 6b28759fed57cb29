-- Transitions whose dates go on by periods of their own, all at one pace, and what tells that they do so for ever (chapter 3).
use Rattle.std.specs.Prelude.{ℕ, ℤ, pos, ◌+◌, ◌-◌, ◌*◌, ◌*ℤ◌, ◌+ℤ◌, ◌-ℤ◌, ◌<◌, ◌≤◌, ◌≤ℤ◌, ◌≡◌, ◌⊎◌, length, get_or, All}
use Rattle.std.specs.Int.{◌∣◌}
use Rattle.dioid.specs.declared.dates.Date.{Date}
use Rattle.dioid.specs.declared.dates.Date.TheVariants.{Early, At, Never}
use Rattle.dioid.specs.Dates.{move}
use Rattle.teg_net.specs.declared.entries.Place.{Place}
use Rattle.teg_net.specs.Nets.{NetLists, HasEndsInRange, IsInput}
use Rattle.teg_net.specs.Circuits.{no_place, IsLive}
use Rattle.teg_model.specs.Datings.{IsLeastUnder, available_at}

-- past `from` and up to `last` the dates go on by the step in each period
abbrev pub GoesOnTo : (ℕ → Date) → ℕ → ℕ → ℕ → ℤ → Type 0
GoesOnTo dates from last period step = (k : ℕ) → from < k → k + period ≤ last → dates (k + period) ≡ move step (dates k)

-- past `from` they do so for ever
abbrev pub GoesOn : (ℕ → Date) → ℕ → ℕ → ℤ → Type 0
GoesOn dates from period step = (k : ℕ) → from < k → dates (k + period) ≡ move step (dates k)

-- by how much the date of number k is later than at a pace of `time` in each `count` numbers, so many times
abbrev pub worth : ℕ → ℤ → Date → ℕ → ℤ
worth count time Early k = pos 0
worth count time (At z) k = (pos count *ℤ z) -ℤ (pos k *ℤ time)
worth count time Never k = pos 0

-- by how much a place makes dates later than at that pace, so many times: by its hold, less the time for its tokens
abbrev pub place_worth : ℕ → ℤ → Place → ℤ
place_worth count time p = (pos count *ℤ pos p.hold) -ℤ (pos p.tokens *ℤ time)

-- past `base`, number a of a period of the end of the place and number b of one of its start, from 0 on, meet over its tokens
-- some periods on
pub record Meets (period : ℕ → ℕ) (p : Place) (a b : ℕ) : Type 0 where
  pub end_in : a < period p.to.index
  pub start_in : b < period p.from.index
  pub ends : ℕ
  pub starts : ℕ
  pub same : a + ends * period p.to.index ≡ b + p.tokens + starts * period p.from.index

-- wherever two such numbers meet, the token is there in time
abbrev pub KeepsSlack : ℕ → ℤ → (ℕ → ℕ → Date) → ℕ → (ℕ → ℕ) → Place → Type 0
KeepsSlack count time x base period p = (a b : ℕ) → Meets period p a b
    → (worth count time (x p.from.index (base + 1 + b)) (base + 1 + b) +ℤ place_worth count time p) ≤ℤ worth count time (x p.to.index (base + 1 + a)) (base + 1 + a)

-- the firing of transition t and number k comes with the token of place i, from a transition whose period divides its own
pub record IsMetBy (net : NetLists) (x : ℕ → ℕ → Date) (period : ℕ → ℕ) (t k i : ℕ) : Type 0 where
  pub within : i < length net.places
  pub ends : (get_or net.places i no_place).to.index ≡ t
  pub divides : period (get_or net.places i no_place).from.index ∣ period t
  pub same : x t k ≡ available_at x (get_or net.places i no_place) k

-- it comes with the firing before, or with such a token
abbrev pub IsMet : NetLists → (ℕ → ℕ → Date) → (ℕ → ℕ) → ℕ → ℕ → Type 0
IsMet net x period t k = (x t k ≡ x t (k - 1)) ⊎ ((i : ℕ) × IsMetBy net x period t k i)

-- up to `last` each transition goes on by its step in its period, at a pace of `time` in each `count` numbers; past `base` each
-- place keeps its slack, and each firing of a period is met
pub record GoOnByOwnPeriods (net : NetLists) (x : ℕ → ℕ → Date) (count : ℕ) (time : ℤ) (from base last : ℕ) (period : ℕ → ℕ) (step : ℕ → ℤ) : Type 0 where
  pub some : 1 ≤ count
  pub before : from < base
  pub tokens_before : All (λ p. from + p.tokens ≤ base) net.places
  pub tokens_in : All (λ p. base + p.tokens ≤ last) net.places
  pub at_least_one : (t : ℕ) → t < length net.transitions → 1 ≤ period t
  pub room : (t : ℕ) → t < length net.transitions → base + period t ≤ last
  pub pace : (t : ℕ) → t < length net.transitions → pos count *ℤ step t ≡ pos (period t) *ℤ time
  pub again : (t : ℕ) → t < length net.transitions → GoesOnTo (x t) from last (period t) (step t)
  pub slack : All (KeepsSlack count time x base period) net.places
  pub met : (t a : ℕ) → t < length net.transitions → a < period t → IsMet net x period t (base + 1 + a)

-- each date is a number
abbrev pub AreNumbers : ℕ → (ℕ → ℕ → Date) → Type 0
AreNumbers count x = (t k : ℕ) → t < count → 1 ≤ k → (z : ℤ) × (x t k ≡ At z)

-- in a live net without inputs the least dating then goes on so for ever
abbrev pub OwnPeriodsGoOn : Type 0
OwnPeriodsGoOn = (net : NetLists) → HasEndsInRange net → IsLive net → ((t : ℕ) → IsInput net t → ⊥)
    → (u x : ℕ → ℕ → Date) → IsLeastUnder net u x → AreNumbers (length net.transitions) x
    → (count : ℕ) (time : ℤ) (from base last : ℕ) (period : ℕ → ℕ) (step : ℕ → ℤ) → GoOnByOwnPeriods net x count time from base last period step
    → (t : ℕ) → t < length net.transitions → GoesOn (x t) from (period t) (step t)
