-- What holds of the least datings of systems whose places without tokens are ranked (chapter 2).
use Rattle.std.specs.Prelude.{ℕ, ◌+◌, ◌*◌, ◌<◌, ◌≤◌, ◌≡◌, length}
use Rattle.dioid.specs.declared.dates.Date.{Date}
use Rattle.teg_net.specs.declared.entries.Place.{Place}
use Rattle.teg_net.specs.Nets.{NetLists, HasEndsInRange}
use Rattle.teg_model.specs.Systems.{System, IsFeasibleIn, IsLeastIn, IsTightIn}
use Rattle.teg_model.specs.LiveRanks.{AreRanks, HaveRanks, IsRanked}
use Rattle.teg_model.specs.Starts.{IsStartIn}
use Rattle.teg_model.specs.Datings.{system_with}
use Rattle.teg_model.specs.WalkDates.{IsGreatestOfWalksIn}
use Rattle.teg_model.specs.DateBounds.{IsDateWithin, IsBoundedBy}

-- each ranked system has a least dating, whatever its initial dates and its releases
abbrev pub SystemsHaveLeast : Type 0
SystemsHaveLeast = (s : System) → HaveRanks s.places → (x : ℕ → ℕ → Date) × IsLeastIn s x

-- no system has two least datings
abbrev pub LeastInAreOne : Type 0
LeastInAreOne = (s : System) (x y : ℕ → ℕ → Date) → IsLeastIn s x → IsLeastIn s y → (t k : ℕ) → 1 ≤ k → x t k ≡ y t k

-- the least dating of a ranked system is tight
abbrev pub LeastInAreTight : Type 0
LeastInAreTight = (s : System) → HaveRanks s.places → (x : ℕ → ℕ → Date) → IsLeastIn s x → IsTightIn s x

-- a dating of a ranked system that is feasible and tight is the least: no other family of dates solves the equations
abbrev pub TightInAreLeast : Type 0
TightInAreLeast = (s : System) → HaveRanks s.places → (x : ℕ → ℕ → Date) → IsFeasibleIn s x → IsTightIn s x → IsLeastIn s x

-- each firing of a system has one start
abbrev pub SystemsHaveStarts : Type 0
SystemsHaveStarts = (s : System) (t k : ℕ) → (start : Date) × IsStartIn s t k start × ((other : Date) → IsStartIn s t k other → other ≡ start)

-- each least date of a system of a ranked net is the greatest start plus time of the walks that end there
abbrev pub LeastInAreWalks : Type 0
LeastInAreWalks = (net : NetLists) → HasEndsInRange net → IsRanked net → (initial : Place → ℕ → Date) (release x : ℕ → ℕ → Date)
    → IsLeastIn (system_with net initial release) x
    → (t k : ℕ) → t < length net.transitions → 1 ≤ k → IsGreatestOfWalksIn net (system_with net initial release) t k (x t k)

-- least dates stay within what first dates and holds are bounded by
abbrev pub LeastInAreWithin : Type 0
LeastInAreWithin = (s : System) (bound hold : ℕ) (rank first : ℕ → ℕ) (x : ℕ → ℕ → Date)
    → AreRanks s.places bound rank → IsBoundedBy s hold first → IsLeastIn s x
    → (t k : ℕ) → 1 ≤ k → IsDateWithin (first k + hold * (k * bound + rank t)) (x t k)
