use Rattle.teg_net.proofs.Distinct.{ApartUpTo}
use Rattle.delay_laws.proofs.DistinctDelays.{departure}
use Rattle.delay_laws.proofs.rules.are_distinct.Given as goal

abbrev pub invariant-loop-index : goal.invariant-loop-index
invariant-loop-index l = ApartUpTo departure l.delays l.index
