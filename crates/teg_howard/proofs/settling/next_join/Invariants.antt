use Rattle.teg_howard.specs.FoundCircuits.{NoneLeadsOn}
use Rattle.teg_howard.proofs.settling.next_join.Given as goal

abbrev pub invariant-loop-rank : goal.invariant-loop-rank
invariant-loop-rank l = NoneLeadsOn l.net l.values l.ids l.rank
