use Rattle.teg_howard.proofs.Lowest.{LowestFrom}
use Rattle.teg_howard.proofs.policies.lowest_places.Given as goal

abbrev pub invariant-loop-index : goal.invariant-loop-index
invariant-loop-index l = LowestFrom l.net l.parts l.part l.policy.items l.index
