use Rattle.release_nets.proofs.Releasing.{periods_enough, periods_few}
use Rattle.release_nets.proofs.releases.periods_for.Goals as goal

pub returns-clause-enough : goal.returns-clause-enough
returns-clause-enough c = periods_enough c.args.by c.args.planned.now.period c.args.planned.now.kept.some

pub returns-clause-few : goal.returns-clause-few
returns-clause-few c = periods_few c.args.by c.args.planned.now.period c.args.planned.now.kept.some
