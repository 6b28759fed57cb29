use Rattle.std.proofs.Common.{length}
use Rattle.law_examples.proofs.periods.own_periods_tell.Goals as goal

pub returns : goal.returns
returns c x period step own common begun =
    c.own_periods_tell_forms.ensures (length c.args.net.now.transitions) x c.args.from period step own c.args.whole c.args.after common begun
