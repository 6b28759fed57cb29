-- Working definitions of the walk that finds where the circuits of a policy begin.
use Rattle.std.specs.Prelude.{ℕ, ◌<◌, ◌≤◌, ◌≡◌, ◌≢◌, List, length, Bool, Option, Some, None, slice_index_or}
use Rattle.teg_net.specs.Nets.{NetLists}
use Rattle.teg_net.specs.Parts.{IsMember}
use Rattle.teg_parts.specs.Components.{IsMarked}
use Rattle.policy_rounds.specs.Policies.{Policy, step_back, LeadsBack}

-- the transition comes again by following the policy backwards, within so many steps
pub record ComesAgain (net : NetLists) (policy : Policy) (n t : ℕ) : Type 0 where
  pub steps : ℕ
  pub some : 0 < steps
  pub few : steps ≤ n
  pub again : step_back net policy steps t ≡ t

-- the lowest numbered transition of a circuit of the policy
pub record IsLowestOnCircuit (net : NetLists) (policy : Policy) (t : ℕ) : Type 0 where
  pub steps : ℕ
  pub some : 0 < steps
  pub again : step_back net policy steps t ≡ t
  pub lowest : (j : ℕ) → j < steps → t ≤ step_back net policy j t

-- the lowest numbered of those to which following backwards leads
pub record IsLowestBack (net : NetLists) (policy : Policy) (t low : ℕ) : Type 0 where
  pub leads : LeadsBack net policy t low
  pub lowest : (j : ℕ) → low ≤ step_back net policy j t

-- the walk that passed a transition first, if one has
abbrev pub walk_at : List (Option ℕ) → ℕ → Option ℕ
walk_at passed t = slice_index_or passed t None

-- what the walk from start has newly passed leads back to where it ends, at a transition that is passed
pub record HasWalkPassed (net : NetLists) (policy : Policy) (start : ℕ) (old new : List (Option ℕ)) (end : ℕ) : Type 0 where
  pub count : length new ≡ length old
  pub leads : LeadsBack net policy start end
  pub here : walk_at new start ≢ None
  pub at_end : walk_at new end ≢ None
  pub kept : (t : ℕ) → walk_at old t ≢ None → walk_at new t ≡ walk_at old t
  pub fresh : (t : ℕ) → walk_at old t ≡ None → walk_at new t ≢ None → (walk_at new t ≡ Some start) × LeadsBack net policy t end × (walk_at new (step_back net policy 1 t) ≢ None)
  pub round : walk_at old end ≡ None → ComesAgain net policy (length old) end

-- the marked transitions are the lowest of circuits of the policy in the part, each circuit's among them
pub record AreStarts (net : NetLists) (parts : List ℕ) (part : ℕ) (policy : Policy) (starts : List Bool) : Type 0 where
  pub count : length starts ≡ length parts
  pub only : (t : ℕ) → IsMarked starts t → IsMember parts part t
  pub all : (t : ℕ) → IsMember parts part t → IsLowestOnCircuit net policy t → IsMarked starts t
