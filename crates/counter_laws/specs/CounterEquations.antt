-- The min-plus equations of counters (chapter 5).
use Rattle.std.specs.Prelude.{ℕ, pos, ◌<◌, ◌≤◌, ◌≡◌, ◌↔◌, Option, length}
use Rattle.teg_model.specs.dioid.declared.dates.Date.{Date}
use Rattle.teg_model.specs.dioid.declared.dates.Date.TheVariants.{At}
use Rattle.teg_model.specs.dioid.Dates.{IsAtMostDate}
use Rattle.teg_model.specs.teg_net.Nets.{NetLists, HasEndsInRange}
use Rattle.teg_model.specs.Datings.{IsFeasibleUnder, IsLeastUnder}
use Rattle.counter_laws.specs.Counters.{IsUpTo, AreCounters, AreReleaseCounters, IsUpToLeast, AreWithinLeast}

-- the least dating of a net under releases, and the counts of both
pub record AreCounted (net : NetLists) (u x : ℕ → ℕ → Date) (r c : ℕ → ℕ → Option ℕ) : Type 0 where
  pub ends : HasEndsInRange net
  pub least : IsLeastUnder net u x
  pub releases : AreReleaseCounters net u r
  pub firings : AreCounters net x c

-- each count of firings is the least of the tokens of the places before it, those that are ready, and of the releases
abbrev pub CountersAreLeastOfTokens : Type 0
CountersAreLeastOfTokens = (net : NetLists) (u x : ℕ → ℕ → Date) (r c : ℕ → ℕ → Option ℕ) → AreCounted net u x r c
    → (t d k : ℕ) → t < length net.transitions → 1 ≤ k → IsUpTo k (c t d) ↔ IsUpToLeast net r c t d k

-- and no counts that keep within that least are greater
abbrev pub CountersAreGreatest : Type 0
CountersAreGreatest = (net : NetLists) (u x : ℕ → ℕ → Date) (r c other : ℕ → ℕ → Option ℕ) → AreCounted net u x r c → AreWithinLeast net r other
    → (t d k : ℕ) → t < length net.transitions → 1 ≤ k → IsUpTo k (other t d) → IsUpTo k (c t d)

-- a feasible dating has counters where each transition has a firing after each date
abbrev pub CountersExist : Type 0
CountersExist = (net : NetLists) (u x : ℕ → ℕ → Date) → IsFeasibleUnder net u x
    → ((t d : ℕ) → t < length net.transitions → (k : ℕ) × (1 ≤ k) × (IsAtMostDate (x t k) (At (pos d)) → ⊥))
    → (c : ℕ → ℕ → Option ℕ) × AreCounters net x c

-- a dating has no two counters
abbrev pub CountersAreOne : Type 0
CountersAreOne = (net : NetLists) (x : ℕ → ℕ → Date) (c other : ℕ → ℕ → Option ℕ) → AreCounters net x c → AreCounters net x other
    → (t d : ℕ) → t < length net.transitions → c t d ≡ other t d
