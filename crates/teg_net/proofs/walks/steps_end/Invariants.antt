use Rattle.teg_net.proofs.WalkLaws.{IsWalkLeft}
use Rattle.teg_net.proofs.walks.steps_end.Given as goal

abbrev pub invariant-loop-step : goal.invariant-loop-step
invariant-loop-step l = IsWalkLeft l.net l.steps l.fn.start.index l.fn.number l.step-index l.at.index l.count
