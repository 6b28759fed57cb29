-- Circuits that stand in paths, and paths that come to no transition twice (chapter 2).
use Rattle.std.specs.Prelude.{ℕ, ◌+◌, ◌<◌, ◌≡◌, ◌≢◌, List, ◌++◌, length, All, AllPairs, sum_by}
use Rattle.teg_net.specs.declared.entries.PlaceId.{PlaceId}
use Rattle.teg_net.specs.Nets.{NetLists}
use Rattle.teg_net.specs.Circuits.{from_of, IsPathBetween, IsCircuit}
use Rattle.teg_net.specs.Parts.{to_of, Reaches}

-- both ends of each place are below n
pub record EndsBelow (net : NetLists) (n : ℕ) : Type 0 where
  pub from_in : (id : PlaceId) → id.index < length net.places → from_of net id < n
  pub to_in : (id : PlaceId) → id.index < length net.places → to_of net id < n

-- a path from a to b that leaves no transition twice, and not b
pub record IsStraight (net : NetLists) (a : ℕ) (ps : List PlaceId) (b : ℕ) : Type 0 where
  pub path : IsPathBetween net a ps b
  pub leaves_once : AllPairs (λ p q. from_of net p ≢ from_of net q) ps
  pub leaves_not_end : All (λ p. from_of net p ≢ b) ps

-- a circuit stands in the path from a to b
pub record HasLoop (net : NetLists) (a b : ℕ) (ps : List PlaceId) : Type 0 where
  pub before : List PlaceId
  pub loop : List PlaceId
  pub after : List PlaceId
  pub at : ℕ
  pub is : ps ≡ before ++ (loop ++ after)
  pub first : IsPathBetween net a before at
  pub closed : IsPathBetween net at loop at
  pub last : IsPathBetween net at after b
  pub circuit : IsCircuit net loop

-- a circuit from which a path leads to b
pub record IsCircuitTowards (net : NetLists) (b : ℕ) (ps : List PlaceId) : Type 0 where
  pub circuit : IsCircuit net ps
  pub at : ℕ
  pub round : IsPathBetween net at ps at
  pub towards : Reaches net at b

-- a straight path from a to b, and circuits, that have together the places of ps, each as often
pub record IsSplit (net : NetLists) (a : ℕ) (ps : List PlaceId) (b : ℕ) (straight : List PlaceId) (circuits : List (List PlaceId)) : Type 0 where
  pub path : IsStraight net a straight b
  pub rounds : All (IsCircuitTowards net b) circuits
  pub same : (f : PlaceId → ℕ) → sum_by f ps ≡ sum_by f straight + sum_by (λ c. sum_by f c) circuits
