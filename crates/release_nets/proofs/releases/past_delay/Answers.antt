use Rattle.std.proofs.Common.{arith}
use Rattle.release_nets.proofs.Releasing.{passes_own}
use Rattle.release_nets.proofs.releases.past_delay.Goals as goal

pub returns-clause-past : goal.returns-clause-past
returns-clause-past c = passes_own c.args.planned.now.period c.args.delay.now.number c.args.delay.now.by c.periods_for.result c.max.result c.periods_for.ensures.enough (omega arith)
