-- Working definitions of how members are routed to a circuit: which are marked.
use Rattle.std.specs.Prelude.{ℕ, ◌≤◌, ◌≡◌, ◌↔◌, List, Bool}
use Rattle.teg_net.specs.declared.entries.PlaceId.{PlaceId}
use Rattle.teg_net.specs.Nets.{NetLists}
use Rattle.teg_net.specs.Circuits.{from_of}
use Rattle.teg_net.specs.Parts.{IsMember, IsPlaceOfPart, to_of}
use Rattle.policy_rounds.specs.Policies.{Policy, IsRouting, LeadsBack}
use Rattle.policy_rounds.specs.PolicyLists.{policy_of}
use Rattle.teg_parts.specs.Components.{IsMarked}

-- marked are just the members from which the policy leads back to the root
abbrev pub AreHome : NetLists → List ℕ → ℕ → Policy → ℕ → List Bool → Type 0
AreHome net parts part policy root marks = (t : ℕ) → IsMarked marks t ↔ (IsMember parts part t × LeadsBack net policy t root)

-- what is marked has its place
abbrev pub KeepsHome : List PlaceId → List PlaceId → List Bool → Type 0
KeepsHome policy routed marks = (t : ℕ) → IsMarked marks t → policy_of routed t ≡ policy_of policy t

-- a place of the part from a marked transition to one that is not
pub record Leads (net : NetLists) (parts : List ℕ) (part : ℕ) (marks : List Bool) (p : PlaceId) : Type 0 where
  pub inside : IsPlaceOfPart net parts part p
  pub from_marked : IsMarked marks (from_of net p)
  pub to_unmarked : IsMarked marks (to_of net p) → ⊥

-- the lowest numbered such place
pub record IsNextMark (net : NetLists) (parts : List ℕ) (part : ℕ) (marks : List Bool) (p : PlaceId) : Type 0 where
  pub leads : Leads net parts part marks p
  pub lowest : (q : PlaceId) → Leads net parts part marks q → p.index ≤ q.index

-- the policy with every other member routed to the root, by whatever places that join them
abbrev pub IsRoutedBy : NetLists → List ℕ → ℕ → Policy → ℕ → Policy → Type 0
IsRoutedBy net parts part policy root routed = (joins : List PlaceId) × IsRouting net parts part policy root joins routed

-- each member is marked
abbrev pub AreMarked : List ℕ → ℕ → List Bool → Type 0
AreMarked parts part marks = (t : ℕ) → IsMember parts part t → IsMarked marks t
