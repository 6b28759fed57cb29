use Rattle.endless_due.specs.declared.row.EndlessRow.{EndlessRow}
use Rattle.teg_net.proofs.Distinct.{ApartUpTo}
use Rattle.endless_due.proofs.rules.are_apart.Given as goal

abbrev pub invariant-loop-index : goal.invariant-loop-index
invariant-loop-index l = ApartUpTo (λ (r : EndlessRow). r.transition.index) l.rows l.index
