-- Working definitions of the path that rounds tell, and of the first circuit that a path closes.
use Rattle.std.specs.Prelude.{ℕ, zero, suc, ◌+◌, ◌-◌, ◌<◌, ◌≤◌, ◌≡◌, ◌≢◌, List, [], ◌∷◌, ◌++◌, length, take, drop, Option, Some, None, slice_index_or}
use Rattle.teg_net.specs.declared.entries.PlaceId.{PlaceId}
use Rattle.teg_net.specs.Nets.{NetLists}
use Rattle.teg_net.specs.Circuits.{from_of, IsCircuit}
use Rattle.teg_sizing.specs.declared.rounds.ValueCell.{ValueCell}
use Rattle.teg_net.specs.Ratios.{Fraction}
use Rattle.teg_sizing.specs.ValueRounds.{by_at, round_at, AreRounds}

-- each round tells of the net's transitions, by its places
pub record AreOfNet (net : NetLists) (rounds : List (List ValueCell)) : Type 0 where
  pub counts : (k : ℕ) → k < length rounds → length (round_at rounds k) ≡ length net.transitions
  pub places : (k t : ℕ) (p : PlaceId) → k < length rounds → by_at (round_at rounds k) t ≡ Some p → p.index < length net.places

-- what there was where no place is told, and what the place makes of it where one is
abbrev pub by_place : Option PlaceId → List PlaceId → (PlaceId → List PlaceId) → List PlaceId
by_place None same made = same
by_place (Some p) same made = made p

-- the places by which the first so many rounds came to the transition
abbrev pub trace_of : NetLists → List (List ValueCell) → ℕ → ℕ → List PlaceId
trace_of net rounds zero t = []
trace_of net rounds (suc k) t = by_place (by_at (round_at rounds k) t) (trace_of net rounds k t) (λ p. trace_of net rounds k (from_of net p) ++ (p ∷ []))

-- the round that comes last
abbrev pub last_round : List (List ValueCell) → List ValueCell
last_round rounds = round_at rounds (length rounds - 1)

-- after the first round there are so many, or fewer, where the further ones would be as the last and tell no place: so they
-- have the last round of so many, and the paths that these tell
pub record HaveToldAll (net : NetLists) (r : Fraction) (except : PlaceId) (first : List ValueCell) (count : ℕ) (rounds : List (List ValueCell)) : Type 0 where
  pub some : 1 ≤ length rounds
  pub all : List (List ValueCell)
  pub are : AreRounds net r except first all
  pub long : length all ≡ count + 1
  pub last : last_round rounds ≡ round_at all count
  pub paths : (t : ℕ) → trace_of net rounds (length rounds) t ≡ trace_of net all (length all) t

-- what stands past the end of a path
abbrev pub no_id : PlaceId
no_id = record { index = 0 }

-- the transition that the place at this position leaves
abbrev pub transition_left_at : NetLists → List PlaceId → ℕ → ℕ
transition_left_at net ps k = from_of net (slice_index_or ps k no_id)

-- an earlier place leaves the same transition
pub record IsLeftBefore (net : NetLists) (ps : List PlaceId) (before position : ℕ) : Type 0 where
  pub before_it : before < position
  pub same : transition_left_at net ps before ≡ transition_left_at net ps position

-- no earlier place leaves the same transition
abbrev pub NoneLeaves : NetLists → List PlaceId → ℕ → Type 0
NoneLeaves net ps position = (k : ℕ) → k < position → transition_left_at net ps k ≢ transition_left_at net ps position

-- a circuit stands in the path from this position on
pub record IsFirstLoop (net : NetLists) (ps own : List PlaceId) : Type 0 where
  pub begin : ℕ
  pub end : ℕ
  pub before_it : begin < end
  pub within : end < length ps
  pub is : own ≡ take (end - begin) (drop begin ps)
  pub same : transition_left_at net ps begin ≡ transition_left_at net ps end
  pub circuit : IsCircuit net own
