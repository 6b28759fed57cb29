-- Policies and choices as lists, and how far a policy is followed backwards.
use Rattle.std.specs.Prelude.{ℕ, ◌<◌, ◌≤◌, ◌≡◌, ◌≢◌, List, length, All, AllPairs, None, slice_index_or}
use Rattle.teg_net.specs.declared.entries.PlaceId.{PlaceId}
use Rattle.teg_net.specs.declared.rounds.Choice.{Choice}
use Rattle.teg_net.specs.Nets.{NetLists}
use Rattle.teg_net.specs.Parts.{IsMember}
use Rattle.teg_net.specs.Ratios.{Fraction}
use Rattle.teg_net.specs.Limits.{greatest_circuit_time, most_circuit_tokens}
use Rattle.policy_rounds.specs.Policies.{Policy, IsPolicy, Enters, step_back, first_id}
use Rattle.policy_rounds.specs.PolicyRounds.{IsLowestInto, choice_of_member}

-- the policy that a list gives by transition
abbrev pub policy_of : List PlaceId → Policy
policy_of ps t = slice_index_or ps t first_id

-- the list gives each transition its lowest numbered place of the part, and place 0 where none enters it
pub record AreLowest (net : NetLists) (parts : List ℕ) (part : ℕ) (ps : List PlaceId) : Type 0 where
  pub count : length ps ≡ length parts
  pub lowest : (t : ℕ) (p : PlaceId) → Enters net parts part t p → IsLowestInto net parts part t (policy_of ps t)
  pub others : (t : ℕ) → ((p : PlaceId) → Enters net parts part t p → ⊥) → policy_of ps t ≡ first_id

-- following the policy backwards stays among transitions that have a place
pub record IsOnPolicy (net : NetLists) (policy : Policy) (start : ℕ) : Type 0 where
  pub parts : List ℕ
  pub part : ℕ
  pub count : length parts ≡ length net.transitions
  pub member : IsMember parts part start
  pub kept : IsPolicy net parts part policy

-- following the policy backwards from start for up to n places comes below start before it comes back
abbrev pub GoesBelow : NetLists → Policy → ℕ → ℕ → Type 0
GoesBelow net policy start n =
    (k : ℕ) → 0 < k → k ≤ n → step_back net policy k start ≡ start → (j : ℕ) × (j < k) × (step_back net policy j start < start)

-- one choice for each member, in order
pub record ListsChoices (parts : List ℕ) (part : ℕ) (cs : List Choice) : Type 0 where
  pub only : All (λ c. IsMember parts part c.transition.index) cs
  pub order : AllPairs (λ c d. c.transition.index < d.transition.index) cs
  pub all : (t : ℕ) → IsMember parts part t → choice_of_member cs t ≢ None

-- the time and the tokens of a ratio keep the bounds of a circuit's
pub record IsCircuitRatio (r : Fraction) : Type 0 where
  pub time_in : r.time ≤ greatest_circuit_time
  pub tokens_in : r.tokens ≤ most_circuit_tokens

-- what a place counts at most
abbrev pub step_bound : ℕ
step_bound = 400000000000000
