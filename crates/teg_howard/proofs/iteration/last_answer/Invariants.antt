use Rattle.std.proofs.Common.{List, ◌++◌, ◌∷◌, []}
use Rattle.teg_net.specs.declared.rounds.Round.{Round}
use Rattle.policy_rounds.specs.PolicyRounds.{IsRunTo}
use Rattle.teg_howard.specs.RoundStates.{IsIteration}
use Rattle.teg_howard.proofs.Ending.{left_of}
use Rattle.teg_howard.proofs.iteration.last_answer.Given as goal

abbrev pub invariant-rounds : goal.invariant-rounds
invariant-rounds l = record {
  standing : IsIteration l.net l.parts l.part l.at;
  run : (rounds : List Round) × IsRunTo l.net l.parts l.part (rounds ++ l.at.state.round ∷ []);
}

abbrev pub decreases-rounds : goal.decreases-rounds
decreases-rounds l = left_of l.at.state.round
