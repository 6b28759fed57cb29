-- A system of places: when its initial tokens are available, before which dates its firings are not
-- released from outside, and its least dating (chapter 2, the dater equations as inequalities).
use Rattle.std.specs.Prelude.{ℕ, ◌-◌, ◌≤◌, ◌≡◌, List, All, nat_lt, if◌then◌else◌}
use Rattle.dioid.specs.declared.dates.Date.{Date}
use Rattle.dioid.specs.Dates.{IsAtMostDate, delayed}
use Rattle.teg_net.specs.declared.entries.Place.{Place}

-- places, the dates of their initial tokens, and for each firing the date before which it is not released
pub record System : Type 0 where
  pub places : List Place
  pub initial : Place → ℕ → Date
  pub release : ℕ → ℕ → Date

-- the date from which the token is available that the place has for firing k of its downstream transition:
-- an initial token, or one of the upstream transition after its hold
abbrev pub available_in : (Place → ℕ → Date) → (ℕ → ℕ → Date) → Place → ℕ → Date
available_in initial x p k = if nat_lt p.tokens k then delayed p.hold (x p.from.index (k - p.tokens)) else initial p k

-- the date from which the token is available that the place has in the system for firing k of its downstream transition
abbrev pub available : System → (ℕ → ℕ → Date) → Place → ℕ → Date
available s x p k = available_in s.initial x p k

-- no firing comes before its release, nor before the tokens that it takes are available
pub record IsFeasibleIn (s : System) (x : ℕ → ℕ → Date) : Type 0 where
  pub places : (k : ℕ) → 1 ≤ k → All (λ p. IsAtMostDate (available s x p k) (x p.to.index k)) s.places
  pub releases : (t k : ℕ) → 1 ≤ k → IsAtMostDate (s.release t k) (x t k)

-- feasible, and at most every feasible dating
pub record IsLeastIn (s : System) (x : ℕ → ℕ → Date) : Type 0 where
  pub feasible : IsFeasibleIn s x
  pub least : (y : ℕ → ℕ → Date) → IsFeasibleIn s y → (t k : ℕ) → 1 ≤ k → IsAtMostDate (x t k) (y t k)

-- no firing comes later than the last of its release and of the tokens that it takes
pub record IsTightIn (s : System) (x : ℕ → ℕ → Date) : Type 0 where
  pub tight : (t k : ℕ) (z : Date) → 1 ≤ k
      → All (λ p. p.to.index ≡ t → IsAtMostDate (available s x p k) z) s.places
      → IsAtMostDate (s.release t k) z
      → IsAtMostDate (x t k) z
