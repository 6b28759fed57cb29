-- The part of a net upstream of a transition, and what it tells of the net (chapter 2).
use Rattle.std.specs.Prelude.{ℕ, Bool, false, ◌≤◌, ◌≡◌, List, All, IsTrue, slice_index_or}
use Rattle.std.specs.List.{filter}
use Rattle.dioid.specs.declared.dates.Date.{Date}
use Rattle.teg_net.specs.declared.entries.InputList.{InputList}
use Rattle.teg_net.specs.declared.entries.Place.{Place}
use Rattle.teg_net.specs.Nets.{NetLists, lists_of}
use Rattle.teg_check.specs.Ranks.{IsRanking}
use Rattle.teg_model.specs.Datings.{IsLeastDating}

-- whether transition t is marked
abbrev pub is_marked : List Bool → ℕ → Bool
is_marked marks t = slice_index_or marks t false

-- whether the place leads to a marked transition
abbrev pub ends_marked : List Bool → Place → Bool
ends_marked marks p = is_marked marks p.to.index

-- whether the list is one of a marked input
abbrev pub feeds_marked : List Bool → InputList → Bool
feeds_marked marks l = is_marked marks l.transition.index

-- each place that leads to a marked transition begins at one
abbrev pub ComesFromMarked : NetLists → List Bool → Type 0
ComesFromMarked net marks = All (λ p. IsTrue (ends_marked marks p) → IsTrue (is_marked marks p.from.index)) net.places

-- the transition is marked, and each place that leads to a marked transition begins at one
pub record IsClosedBack (net : NetLists) (t : ℕ) (marks : List Bool) : Type 0 where
  pub ends : IsTrue (is_marked marks t)
  pub comes : ComesFromMarked net marks

-- the net with the places that lead to marked transitions, and the lists of marked inputs
abbrev pub marked_part : List Bool → NetLists → NetLists
marked_part marks net = lists_of net.transitions (filter (ends_marked marks) net.places) (filter (feeds_marked marks) net.inputs)

-- the part has the transitions of the net, with its ranks, and by their least datings transition t has the same dates
pub record TellsDatesOf (net : NetLists) (t : ℕ) (part : NetLists) : Type 0 where
  pub transitions : part.transitions ≡ net.transitions
  pub rankings : (ranks : List ℕ) → IsRanking net ranks → IsRanking part ranks
  pub same : (x y : ℕ → ℕ → Date) → IsLeastDating net x → IsLeastDating part y → (k : ℕ) → 1 ≤ k → y t k ≡ x t k
