use Rattle.std.proofs.Common.{length}
use Rattle.law_examples.proofs.turns.runs_tell.Goals as goal

pub returns : goal.returns
returns c x runs = c.runs_tell_dates.ensures.rows (length c.args.net.now.transitions) x c.args.last runs
