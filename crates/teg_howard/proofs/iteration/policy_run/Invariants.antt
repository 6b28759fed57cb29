use Rattle.std.proofs.Common.{◌++◌, ◌∷◌, []}
use Rattle.policy_rounds.specs.PolicyRounds.{IsRunTo}
use Rattle.teg_howard.specs.PolicyRuns.{AllRise}
use Rattle.teg_howard.specs.RoundStates.{IsIteration}
use Rattle.teg_howard.proofs.Ending.{left_of}
use Rattle.teg_howard.proofs.iteration.policy_run.Given as goal

abbrev pub invariant-rounds : goal.invariant-rounds
invariant-rounds l = record {
  standing : IsIteration l.net l.parts l.part l.at;
  run : IsRunTo l.net l.parts l.part (l.rounds.items ++ l.at.state.round ∷ []);
  rises : AllRise (l.rounds.items ++ l.at.state.round ∷ []);
}

abbrev pub decreases-rounds : goal.decreases-rounds
decreases-rounds l = left_of l.at.state.round
