use Rattle.std.proofs.Common.{◌≡◌, ◌+◌, length}
use Rattle.teg_sizing.specs.ValueRounds.{AreRounds}
use Rattle.teg_sizing.proofs.rounds.rounds.Given as goal

abbrev pub invariant-loop-number : goal.invariant-loop-number
invariant-loop-number l = AreRounds l.asked.net.now l.asked.target l.asked.place l.fn.first l.rounds.items × (length l.rounds.items ≡ l._number + 1)
