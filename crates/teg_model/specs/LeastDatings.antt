-- What holds of the least datings of a net: there is one, and only one; it is tight; its dates are those of walks; and
-- they keep a bound (chapter 2).
use Rattle.std.specs.Prelude.{ℕ, pos, ◌<◌, ◌≤◌, ◌≡◌, length, All}
use Rattle.dioid.specs.declared.dates.Date.{Date}
use Rattle.dioid.specs.declared.dates.Date.TheVariants.{At}
use Rattle.dioid.specs.Dates.{IsAtMostDate}
use Rattle.teg_net.specs.Limits.{greatest_firing_number}
use Rattle.teg_net.specs.Nets.{NetLists, IsNet, HasEndsInRange, IsInput}
use Rattle.teg_net.specs.Circuits.{IsLive}
use Rattle.teg_model.specs.Systems.{IsLeastIn}
use Rattle.teg_model.specs.LiveRanks.{IsRanked}
use Rattle.teg_model.specs.DateBounds.{IsDateWithin, greatest_least_date}
use Rattle.teg_model.specs.Datings.{IsFeasibleUnder, IsLeastUnder, IsLeastDating, extended_places, available_at, system_of}
use Rattle.teg_model.specs.WalkDates.{IsGreatestOfWalks}

-- the transitions of a live net have ranks
abbrev pub LiveNetsAreRanked : Type 0
LiveNetsAreRanked = (net : NetLists) → HasEndsInRange net → IsLive net → IsRanked net

-- a live net has a least dating under any releases, and that is the least of its system too
abbrev pub LeastDatingsExist : Type 0
LeastDatingsExist = (net : NetLists) → HasEndsInRange net → IsLive net → (u : ℕ → ℕ → Date)
    → (x : ℕ → ℕ → Date) × IsLeastUnder net u x × IsLeastIn (system_of net u) x

-- two datings are one at every firing of the net
abbrev pub AreSameOn : NetLists → (ℕ → ℕ → Date) → (ℕ → ℕ → Date) → Type 0
AreSameOn net x y = (t k : ℕ) → t < length net.transitions → 1 ≤ k → x t k ≡ y t k

-- a net has no second least dating
abbrev pub LeastDatingsAreOne : Type 0
LeastDatingsAreOne = (net : NetLists) (u x y : ℕ → ℕ → Date) → IsLeastUnder net u x → IsLeastUnder net u y → AreSameOn net x y

-- the least dating of a net's system is a least dating of the net
abbrev pub LeastOfSystemsAreLeast : Type 0
LeastOfSystemsAreLeast = (net : NetLists) (u x : ℕ → ℕ → Date) → IsLeastIn (system_of net u) x → IsLeastUnder net u x

-- no firing comes later than the last of the tokens and the release that it waits for
pub record IsTight (net : NetLists) (u x : ℕ → ℕ → Date) : Type 0 where
  pub tight : (t k : ℕ) (z : Date) → t < length net.transitions → 1 ≤ k
      → All (λ p. p.to.index ≡ t → IsAtMostDate (available_at x p k) z) (extended_places net)
      → (IsInput net t → IsAtMostDate (u t k) z)
      → IsAtMostDate (x t k) z

-- the least datings of a live net are tight
abbrev pub LeastDatingsAreTight : Type 0
LeastDatingsAreTight = (net : NetLists) → HasEndsInRange net → IsLive net → (u x : ℕ → ℕ → Date) → IsLeastUnder net u x → IsTight net u x

-- a dating of a live net that is feasible and tight is its least
abbrev pub TightDatingsAreLeast : Type 0
TightDatingsAreLeast = (net : NetLists) → HasEndsInRange net → IsLive net → (u x : ℕ → ℕ → Date)
    → IsFeasibleUnder net u x → IsTight net u x → IsLeastUnder net u x

-- each date of a dating is the greatest start plus time of the walks that end there
abbrev pub AreDatesOfWalks : NetLists → (ℕ → ℕ → Date) → (ℕ → ℕ → Date) → Type 0
AreDatesOfWalks net u x = (t k : ℕ) → t < length net.transitions → 1 ≤ k → IsGreatestOfWalks net u t k (x t k)

-- the least dates of a live net are those of walks
abbrev pub LeastDatesAreWalks : Type 0
LeastDatesAreWalks = (net : NetLists) → HasEndsInRange net → IsLive net → (u x : ℕ → ℕ → Date) → IsLeastUnder net u x → AreDatesOfWalks net u x

-- the least dates of a live net, by its input lists, keep the bound up to the greatest number
abbrev pub LeastDatesAreWithin : Type 0
LeastDatesAreWithin = (net : NetLists) → IsNet net → IsLive net → (x : ℕ → ℕ → Date) → IsLeastDating net x
    → (t k : ℕ) → t < length net.transitions → 1 ≤ k → k ≤ greatest_firing_number → IsDateWithin greatest_least_date (x t k)

-- no least date is Early: no firing comes before date 0
abbrev pub LeastDatesAreFromZero : Type 0
LeastDatesAreFromZero = (net : NetLists) (x : ℕ → ℕ → Date) → IsLeastDating net x
    → (t k : ℕ) → t < length net.transitions → 1 ≤ k → IsAtMostDate (At (pos 0)) (x t k)
