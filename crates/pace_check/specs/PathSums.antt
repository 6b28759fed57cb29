-- Working definitions of the search for the greatest sums of paths of a part.
use Rattle.std.specs.Prelude.{ℕ, ℤ, pos, ◌<◌, ◌≡◌, IfSome, List, None, Option, All, length, slice_index_or}
use Rattle.teg_net.specs.declared.entries.PlaceId.{PlaceId}
use Rattle.teg_net.specs.declared.answers.Potential.{Potential}
use Rattle.teg_net.specs.Circuits.{BeginsLowest, IsPathBetween}
use Rattle.teg_net.specs.Nets.{NetLists}
use Rattle.teg_net.specs.PartAnswers.{first_transition_of}
use Rattle.teg_net.specs.Parts.{IsPlaceOfPart}
use Rattle.teg_net.specs.Ratios.{Fraction}
use Rattle.teg_net.specs.ReducedTimes.{IsGreatestPathTime, reduced_time_of}

-- some path in the part from transition s to transition t has this reduced time
pub record IsPathSum (net : NetLists) (part_of : List ℕ) (part : ℕ) (r : Fraction) (s t : ℕ) (z : ℤ) : Type 0 where
  pub places : List PlaceId
  pub path : IsPathBetween net s places t
  pub inside : All (IsPlaceOfPart net part_of part) places
  pub is : z ≡ reduced_time_of net r.time r.tokens places

-- a sum of a path from s is listed for each transition, or none
pub record ArePathSums (net : NetLists) (part_of : List ℕ) (part : ℕ) (r : Fraction) (s : ℕ) (sums : List (Option ℤ)) : Type 0 where
  pub count : length sums ≡ length net.transitions
  pub each : (t : ℕ) → t < length net.transitions → IfSome (slice_index_or sums t None) (IsPathSum net part_of part r s t)

-- what is told at the transition at which paths begin is 0
abbrev pub IsNoughtAt : ℕ → List Potential → Type 0
IsNoughtAt s vs = All (λ v. v.transition.index ≡ s → v.value ≡ pos 0) vs

-- each potential that is told is the greatest reduced time of the paths in the part that lead to its transition from s
abbrev pub AreGreatestFrom : NetLists → List ℕ → ℕ → Fraction → ℕ → List Potential → Type 0
AreGreatestFrom net part_of part r s vs = All (λ v. IsGreatestPathTime net part_of part r.time r.tokens s v.transition.index v.value) vs

-- the circuit is told from its lowest numbered transition on, and the potentials are the greatest reduced times of paths from there
pub record IsToldFromLowest (net : NetLists) (part_of : List ℕ) (part : ℕ) (r : Fraction) (c : List PlaceId) (vs : List Potential) : Type 0 where
  pub lowest_first : BeginsLowest net c
  pub sums : AreGreatestFrom net part_of part r (first_transition_of net c) vs
