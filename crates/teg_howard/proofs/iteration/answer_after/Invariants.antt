use Rattle.teg_howard.specs.RoundStates.{IsIteration}
use Rattle.teg_howard.proofs.Ending.{left_of}
use Rattle.teg_howard.proofs.iteration.answer_after.Given as goal

abbrev pub invariant-rounds : goal.invariant-rounds
invariant-rounds l = IsIteration l.net l.parts l.part l.at

abbrev pub decreases-rounds : goal.decreases-rounds
decreases-rounds l = left_of l.at.state.round
