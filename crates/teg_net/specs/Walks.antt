-- Walks over firings: the net unfolded over firing numbers (chapter 2).
use Rattle.std.specs.Prelude.{ℕ, ◌+◌, ◌<◌, ◌≤◌, ◌≡◌, List, [], ◌∷◌, length, All, sum_by, ⊤}
use Rattle.teg_net.specs.declared.walks.Step.{Step}
use Rattle.teg_net.specs.declared.walks.Step.TheVariants.{By, Next}
use Rattle.teg_net.specs.declared.walks.Walk.{Walk}
use Rattle.teg_net.specs.Limits.{greatest_firing_number}
use Rattle.teg_net.specs.Nets.{NetLists}
use Rattle.teg_net.specs.Circuits.{place_at, from_of}

-- the steps lead from firing s of transition a to firing k of transition b
abbrev pub Walks : NetLists → ℕ → ℕ → List Step → ℕ → ℕ → Type 0
Walks net a s [] b k = (a ≡ b) × (s ≡ k)
Walks net a s (By p ∷ steps) b k =
    (p.index < length net.places) × (from_of net p ≡ a) × Walks net (place_at net p).to.index (s + (place_at net p).tokens) steps b k
Walks net a s (Next ∷ steps) b k = Walks net a (s + 1) steps b k

-- the firing numbers that the steps pass from number s on
abbrev pub numbers_of : NetLists → ℕ → List Step → List ℕ
numbers_of net s [] = s ∷ []
numbers_of net s (By p ∷ steps) = s ∷ numbers_of net (s + (place_at net p).tokens) steps
numbers_of net s (Next ∷ steps) = s ∷ numbers_of net (s + 1) steps

-- a place by which a step goes is one of the net
abbrev pub IsStepOf : NetLists → Step → Type 0
IsStepOf net (By p) = p.index < length net.places
IsStepOf net Next = ⊤

-- a transition of the net, and a number that is asked or walked to
abbrev pub IsFiring : NetLists → ℕ → ℕ → Type 0
IsFiring net t k = (t < length net.transitions) × (1 ≤ k) × (k ≤ greatest_firing_number)

-- the walk starts at a firing of the net, its steps follow each other, and each firing number keeps its limit
pub record IsWalk (net : NetLists) (w : Walk) : Type 0 where
  pub start_in : w.start.index < length net.transitions
  pub number_in : 1 ≤ w.number
  pub steps : (b k : ℕ) × Walks net w.start.index w.number w.steps.items b k
  pub numbers : All (λ k. k ≤ greatest_firing_number) (numbers_of net w.number w.steps.items)

-- the walk ends at firing k of transition b
abbrev pub EndsAt : NetLists → Walk → ℕ → ℕ → Type 0
EndsAt net w b k = Walks net w.start.index w.number w.steps.items b k

-- the holding time that a step takes
abbrev pub step_time : NetLists → Step → ℕ
step_time net (By p) = (place_at net p).hold
step_time net Next = 0

-- the sum of the holding times of the places on the way
abbrev pub walk_time : NetLists → List Step → ℕ
walk_time net steps = sum_by (step_time net) steps

-- the steps lead there, and no firing number on the way passes its limit
abbrev pub WalksWithin : NetLists → ℕ → ℕ → List Step → ℕ → ℕ → Type 0
WalksWithin net a s steps b k = Walks net a s steps b k × All (λ n. n ≤ greatest_firing_number) (numbers_of net s steps)
