-- How the least datings of a net stand to each other: later releases, joint releases, shifted releases, and feasible datings together (chapter 2).
use Rattle.std.specs.Prelude.{ℕ, ◌<◌, ◌≤◌, length}
use Rattle.teg_model.specs.dioid.declared.dates.Date.{Date}
use Rattle.teg_model.specs.dioid.Dates.{IsAtMostDate, later_of, earlier_of, delayed}
use Rattle.teg_model.specs.teg_net.Nets.{NetLists, IsInput}
use Rattle.teg_model.specs.Datings.{IsFeasibleUnder, IsLeastUnder}

-- later releases lead to later dates
abbrev pub LaterReleasesLaterDates : Type 0
LaterReleasesLaterDates = (net : NetLists) (u v x y : ℕ → ℕ → Date)
    → ((t k : ℕ) → 1 ≤ k → IsInput net t → IsAtMostDate (u t k) (v t k))
    → IsLeastUnder net u x → IsLeastUnder net v y
    → (t k : ℕ) → t < length net.transitions → 1 ≤ k → IsAtMostDate (x t k) (y t k)

-- the earlier of two feasible datings is feasible
abbrev pub FeasibleDatingsMeet : Type 0
FeasibleDatingsMeet = (net : NetLists) (u x y : ℕ → ℕ → Date)
    → IsFeasibleUnder net u x → IsFeasibleUnder net u y → IsFeasibleUnder net u (λ t k. earlier_of (x t k) (y t k))

-- the later of two feasible datings is feasible under the later of their releases
abbrev pub FeasibleDatingsJoin : Type 0
FeasibleDatingsJoin = (net : NetLists) (u v x y : ℕ → ℕ → Date)
    → IsFeasibleUnder net u x → IsFeasibleUnder net v y
    → IsFeasibleUnder net (λ t k. later_of (u t k) (v t k)) (λ t k. later_of (x t k) (y t k))

-- the least dating under the later of two releases is the later of the least datings under each
abbrev pub LeastDatingsJoin : Type 0
LeastDatingsJoin = (net : NetLists) (u v x y : ℕ → ℕ → Date)
    → IsLeastUnder net u x → IsLeastUnder net v y
    → IsLeastUnder net (λ t k. later_of (u t k) (v t k)) (λ t k. later_of (x t k) (y t k))

-- no shift grows: releases that are at most so much later lead to dates that are at most so much later
abbrev pub NoShiftGrows : Type 0
NoShiftGrows = (net : NetLists) (c : ℕ) (u v x y : ℕ → ℕ → Date)
    → ((t k : ℕ) → 1 ≤ k → IsInput net t → IsAtMostDate (v t k) (delayed c (u t k)))
    → IsLeastUnder net u x → IsLeastUnder net v y
    → (t k : ℕ) → t < length net.transitions → 1 ≤ k → IsAtMostDate (y t k) (delayed c (x t k))
