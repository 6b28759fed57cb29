use Rattle.teg_critical.proofs.HeightLaws.{IsRound}
use Rattle.teg_critical.proofs.heights.lift.Given as goal

abbrev pub invariant-loop-number : goal.invariant-loop-number
invariant-loop-number l = IsRound l.net l.raised l.initial.heights l.number l.lifted l.heights
