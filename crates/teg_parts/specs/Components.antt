-- Working definitions of what a search along places from a transition marks, and of the numbers that searches both ways give.
use Rattle.std.specs.Prelude.{ℕ, ◌<◌, ◌≡◌, ◌≢◌, ◌↔◌, List, Bool, true, false, length, Option, Some, None, slice_index_or}
use Rattle.teg_net.specs.Nets.{NetLists}
use Rattle.teg_net.specs.Parts.{Reaches}
use Rattle.teg_net.specs.declared.places_of.PlaceEnd.{PlaceEnd}
use Rattle.teg_parts.specs.PlacesAlong.{Leads}

-- the transition is marked
abbrev pub IsMarked : List Bool → ℕ → Type 0
IsMarked marks t = slice_index_or marks t false ≡ true

-- marked are exactly the transitions to which a path goes from start, onward or back
pub record AreReachedMarks (net : NetLists) (near : PlaceEnd) (start : ℕ) (marks : List Bool) : Type 0 where
  pub count : length marks ≡ length net.transitions
  pub exact : (t : ℕ) → IsMarked marks t ↔ Leads net near start t

-- each reaches the other
abbrev pub AreMutual : NetLists → ℕ → ℕ → Type 0
AreMutual net t u = Reaches net t u × Reaches net u t

-- the number that the transition has so far, if it has one
abbrev pub found_at : List (Option ℕ) → ℕ → Option ℕ
found_at found t = slice_index_or found t None

-- numbered so far are whole parts, each by one of its transitions
pub record AreFound (net : NetLists) (found : List (Option ℕ)) : Type 0 where
  pub count : length found ≡ length net.transitions
  pub below : (t c : ℕ) → found_at found t ≡ Some c → c < length net.transitions
  pub one : (t c : ℕ) → found_at found t ≡ Some c → AreMutual net t c
  pub whole : (t u c : ℕ) → found_at found t ≡ Some c → u < length net.transitions → AreMutual net t u → found_at found u ≡ Some c

-- the transitions with both marks have the number, and the others what they had
pub record IsRooted (onward back : List Bool) (root : ℕ) (old new : List (Option ℕ)) : Type 0 where
  pub given : (t : ℕ) → t < length old → IsMarked onward t → IsMarked back t → found_at new t ≡ Some root
  pub kept : (t : ℕ) → (IsMarked onward t → IsMarked back t → ⊥) → found_at new t ≡ found_at old t

-- the root has a number, as each transition that had one
pub record HasFound (net : NetLists) (root : ℕ) (old new : List (Option ℕ)) : Type 0 where
  pub found : AreFound net new
  pub kept : (t : ℕ) → found_at old t ≢ None → found_at new t ≢ None
  pub numbered : found_at new root ≢ None

-- numbers that are equal exactly where each transition reaches the other
pub record AreComponents (net : NetLists) (components : List ℕ) : Type 0 where
  pub count : length components ≡ length net.transitions
  pub below : (t : ℕ) → t < length components → slice_index_or components t 0 < length components
  pub strong : (t u : ℕ) → t < length components → u < length components → (slice_index_or components t 0 ≡ slice_index_or components u 0) ↔ AreMutual net t u
