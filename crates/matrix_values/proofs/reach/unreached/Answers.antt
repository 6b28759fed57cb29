use Rattle.matrix_values.proofs.ReachLaws.{onward_unreached}
use Rattle.matrix_values.proofs.reach.unreached.Goals as goal

pub returns-in-Some : goal.returns-in-Some
returns-in-Some c = onward_unreached c.args.a.now c.in-Some.to (rw c.in-Some.is at c.in_ok-to.ensures)
