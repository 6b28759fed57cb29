use Rattle.witness_check.proofs.Climbing.{IsClimbing}
use Rattle.witness_check.proofs.climbs.lift.Given as goal

abbrev pub invariant-loop-number : goal.invariant-loop-number
invariant-loop-number l = IsClimbing l.net l.each l.initial.numbers l.number l.lifted l.numbers
