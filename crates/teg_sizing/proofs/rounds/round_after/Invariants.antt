use Rattle.teg_sizing.specs.ValueRounds.{IsRoundUpTo}
use Rattle.teg_sizing.proofs.rounds.round_after.Given as goal

abbrev pub invariant-loop-index : goal.invariant-loop-index
invariant-loop-index l = IsRoundUpTo l.net l.target l.except l.before l.index l.after.items
