-- What holds from round to round of a policy run.
use Rattle.std.specs.Prelude.{ℕ, zero, suc, ℤ, pos, ◌+ℤ◌, ◌<ℤ◌, ◌+◌, ◌*◌, ◌<◌, ◌≡◌, ◌⊎◌, List, length, slice_index_or}
use Rattle.teg_net.specs.declared.rounds.Round.{Round}
use Rattle.teg_net.specs.declared.entries.PlaceId.{PlaceId}
use Rattle.teg_net.specs.Nets.{NetLists}
use Rattle.teg_net.specs.Parts.{IsPlaceOfPart}
use Rattle.teg_net.specs.Limits.{most_transitions}
use Rattle.policy_rounds.specs.Policies.{Policy, IsImprovement, IsChanged}
use Rattle.policy_rounds.specs.PolicyRounds.{chosen, potential, IsRoundOf, KeepsCircuit}

-- some place has both ends in the part; a strong part has a circuit exactly then
abbrev pub HasInnerPlace : NetLists → List ℕ → ℕ → Type 0
HasInnerPlace net part_of part = (p : PlaceId) × IsPlaceOfPart net part_of part p

-- the sum of the values below n
abbrev pub sum_below : ℕ → (ℕ → ℤ) → ℤ
sum_below zero v = pos 0
sum_below (suc n) v = sum_below n v +ℤ v n

-- the sum of the potentials of all members; other transitions count 0
abbrev pub potential_sum : Round → ℤ
potential_sum r = sum_below most_transitions (potential r)

-- the ratio stays, and the sum of the potentials rises
pub record RisesInSum (r s : Round) : Type 0 where
  pub same : s.ratio ≡ r.ratio
  pub higher : potential_sum r <ℤ potential_sum s

-- the pair of ratio and sum of potentials rises
abbrev pub PairRises : Round → Round → Type 0
PairRises r s = (r.ratio.time * s.ratio.tokens < s.ratio.time * r.ratio.tokens) ⊎ RisesInSum r s

-- in each step the pair rises
abbrev pub AllRise : List Round → Type 0
AllRise rounds = (k : ℕ) (d : Round) → k + 1 < length rounds → PairRises (slice_index_or rounds k d) (slice_index_or rounds (k + 1) d)

-- where a round follows by a better circuit the ratio rises; where the circuit is kept the sum of the potentials does
pub record RisesByCase (net : NetLists) (parts : List ℕ) (part : ℕ) (r s : Round) : Type 0 where
  pub anew : (better : Policy) → IsImprovement net parts part r.ratio.time r.ratio.tokens (chosen r) (potential r) better → IsRoundOf net parts part better (IsChanged parts part (chosen r) better) s
      → r.ratio.time * s.ratio.tokens < s.ratio.time * r.ratio.tokens
  pub kept : (better : Policy) → KeepsCircuit net parts part r s better → RisesInSum r s

-- in each step the ratio rises, or the sum of the potentials does where the circuit is kept
abbrev pub RiseByCase : NetLists → List ℕ → ℕ → List Round → Type 0
RiseByCase net parts part rounds = (k : ℕ) (d : Round) → k + 1 < length rounds → RisesByCase net parts part (slice_index_or rounds k d) (slice_index_or rounds (k + 1) d)
