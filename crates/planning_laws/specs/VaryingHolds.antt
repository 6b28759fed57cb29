-- Holds that vary from firing to firing, between the holds of two nets (chapter 2).
use Rattle.std.specs.Prelude.{ℕ, ◌-◌, ◌<◌, ◌≤◌, ◌≡◌, length, slice_index_or, nat_lt, if◌then◌else◌}
use Rattle.teg_model.specs.dioid.declared.dates.Date.{Date}
use Rattle.teg_model.specs.dioid.Dates.{IsAtMostDate, delayed}
use Rattle.teg_model.specs.teg_net.declared.entries.Place.{Place}
use Rattle.teg_model.specs.teg_net.Nets.{NetLists, HasEndsInRange, IsInput}
use Rattle.teg_model.specs.teg_net.Circuits.{no_place, IsLive}
use Rattle.teg_model.specs.Datings.{available_at, initial_date, implicit_place, IsFeasibleUnder, IsLeastUnder}
use Rattle.teg_model.specs.LeastDatings.{AreSameOn, IsTight}

-- in a live net a dating in which no firing comes later than the last of what it waits for is at most each feasible one
abbrev pub TightDatingsAreEarly : Type 0
TightDatingsAreEarly = (net : NetLists) → HasEndsInRange net → IsLive net → (u x y : ℕ → ℕ → Date) → IsTight net u x → IsFeasibleUnder net u y
    → (t k : ℕ) → t < length net.transitions → 1 ≤ k → IsAtMostDate (x t k) (y t k)

-- no date comes before that of the first dating, nor after that of the third
abbrev pub IsBetween : ℕ → (ℕ → ℕ → Date) → (ℕ → ℕ → Date) → (ℕ → ℕ → Date) → Type 0
IsBetween transitions x y z = (t k : ℕ) → t < transitions → 1 ≤ k → IsAtMostDate (x t k) (y t k) × IsAtMostDate (y t k) (z t k)

-- a dating that is feasible in one net, and in which no firing comes later than the last of what it waits for in another, is
-- between the least datings of the two
abbrev pub DatesLieBetween : Type 0
DatesLieBetween = (low high : NetLists) → HasEndsInRange high → IsLive high → length low.transitions ≡ length high.transitions
    → (u x y z : ℕ → ℕ → Date) → IsLeastUnder low u x → IsFeasibleUnder low u y → IsTight high u y → IsLeastUnder high u z
    → IsBetween (length low.transitions) x y z

-- the place of this number
abbrev pub place_of : NetLists → ℕ → Place
place_of net i = slice_index_or net.places i no_place

-- two places that differ in name and hold alone
pub record IsSameButHold (p q : Place) : Type 0 where
  pub from : p.from.index ≡ q.from.index
  pub to : p.to.index ≡ q.to.index
  pub tokens : p.tokens ≡ q.tokens
  pub ready : p.ready ≡ q.ready

-- two nets that differ in names and holds alone, and for each place and each firing of its end a hold between theirs
pub record AreHoldsBetween (low high : NetLists) (holds : ℕ → ℕ → ℕ) : Type 0 where
  pub transitions : low.transitions ≡ high.transitions
  pub count : length low.places ≡ length high.places
  pub same : (i : ℕ) → i < length low.places → IsSameButHold (place_of low i) (place_of high i)
  pub least : (i k : ℕ) → i < length low.places → 1 ≤ k → (place_of low i).hold ≤ holds i k
  pub greatest : (i k : ℕ) → i < length low.places → 1 ≤ k → holds i k ≤ (place_of high i).hold

-- the date from which the token is there that place i has for firing k of its end, held for `holds i k` where it is no initial one
abbrev pub held_at : NetLists → (ℕ → ℕ → ℕ) → (ℕ → ℕ → Date) → ℕ → ℕ → Date
held_at net holds x i k =
    if nat_lt (place_of net i).tokens k then delayed (holds i k) (x (place_of net i).from.index (k - (place_of net i).tokens)) else initial_date (place_of net i) k

-- each firing comes at the last of what it waits for: its own firing before, its tokens after such holds, and its release
pub record IsDatingWithHolds (net : NetLists) (holds : ℕ → ℕ → ℕ) (u x : ℕ → ℕ → Date) : Type 0 where
  pub places : (i k : ℕ) → i < length net.places → 1 ≤ k → IsAtMostDate (held_at net holds x i k) (x (place_of net i).to.index k)
  pub in_turn : (t k : ℕ) → t < length net.transitions → 1 ≤ k → IsAtMostDate (available_at x (implicit_place t) k) (x t k)
  pub inputs : (t k : ℕ) → 1 ≤ k → IsInput net t → IsAtMostDate (u t k) (x t k)
  pub no_later : (t k : ℕ) (z : Date) → t < length net.transitions → 1 ≤ k
      → ((i : ℕ) → i < length net.places → (place_of net i).to.index ≡ t → IsAtMostDate (held_at net holds x i k) z)
      → IsAtMostDate (available_at x (implicit_place t) k) z
      → (IsInput net t → IsAtMostDate (u t k) z)
      → IsAtMostDate (x t k) z

-- a live net has one such dating, whatever the holds and the releases
abbrev pub DatingsWithHoldsExist : Type 0
DatingsWithHoldsExist = (net : NetLists) → HasEndsInRange net → IsLive net → (holds : ℕ → ℕ → ℕ) (u : ℕ → ℕ → Date) → (x : ℕ → ℕ → Date) × IsDatingWithHolds net holds u x

-- and no second one
abbrev pub DatingsWithHoldsAreOne : Type 0
DatingsWithHoldsAreOne = (net : NetLists) → HasEndsInRange net → IsLive net → (holds : ℕ → ℕ → ℕ) (u x y : ℕ → ℕ → Date)
    → IsDatingWithHolds net holds u x → IsDatingWithHolds net holds u y → AreSameOn net x y

-- no input is released later by the first than by the second
abbrev pub AreNoLater : NetLists → (ℕ → ℕ → Date) → (ℕ → ℕ → Date) → Type 0
AreNoLater net u v = (t k : ℕ) → 1 ≤ k → IsInput net t → IsAtMostDate (u t k) (v t k)

-- and so is a dating by holds that vary from firing to firing between those of two nets, and by releases between two
abbrev pub VaryingHoldsLieBetween : Type 0
VaryingHoldsLieBetween = (low high : NetLists) (holds : ℕ → ℕ → ℕ) → HasEndsInRange high → IsLive high → AreHoldsBetween low high holds
    → (u v w x y z : ℕ → ℕ → Date) → AreNoLater low u v → AreNoLater low v w
    → IsLeastUnder low u x → IsDatingWithHolds low holds v y → IsLeastUnder high w z
    → IsBetween (length low.transitions) x y z

-- the least dating of a live net is the one by its own holds
abbrev pub LeastDatingsHaveHolds : Type 0
LeastDatingsHaveHolds = (net : NetLists) → HasEndsInRange net → IsLive net → (u x : ℕ → ℕ → Date) → IsLeastUnder net u x
    → IsDatingWithHolds net (λ i k. (place_of net i).hold) u x
