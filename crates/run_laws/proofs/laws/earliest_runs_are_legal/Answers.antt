use Rattle.run_laws.proofs.InOrder.{earliest_legal, parts_legal}
use Rattle.run_laws.proofs.laws.earliest_runs_are_legal.Goals as goal

pub returns-clause-whole : goal.returns-clause-whole
returns-clause-whole c = earliest_legal

pub returns-clause-parts : goal.returns-clause-parts
returns-clause-parts c = parts_legal
