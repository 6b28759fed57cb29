use Rattle.teg_howard.proofs.NextJoins.{ExitsFrom}
use Rattle.teg_howard.proofs.inside.first_exits.Given as goal

abbrev pub invariant-loop-rank : goal.invariant-loop-rank
invariant-loop-rank l = ExitsFrom l.net l.ids l.exits.items l.rank
