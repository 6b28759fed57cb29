use Rattle.teg_jit.proofs.Starting.{ready_is_start, none_at_start}
use Rattle.teg_jit.proofs.LateRows.{none_map}
use Rattle.teg_jit.proofs.starts.first_at_start.Goals as goal

pub returns-in-Some-clause-some : goal.returns-in-Some-clause-some
returns-in-Some-clause-some c =
    ready_is_start c.args.net.now c.args.plan.now c.in-Some.at.0.index c.in-Some.at.1 c.requires.width c.requires.kept (rw c.in-Some.is at c.first_when_ready.ensures.some)

pub returns-in-None-clause-none : goal.returns-in-None-clause-none
returns-in-None-clause-none c =
    let ready = rw c.in-None.is at c.first_when_ready.ensures.none in
    none_map c.first_at_zero.result c.first_at_zero.ensures.none (λ zero. none_at_start c.args.net.now c.args.plan.now ready zero)
