use Rattle.change_laws.proofs.Changing.{ready_of_tokens}
use Rattle.teg_net.proofs.NetRules.{net_ends}
use Rattle.slope_laws.proofs.teg_loops_proofs.Ends.{ends_below}
use Rattle.law_examples.proofs.timetables.fraction_has_earliest.Goals as goal

pub returns : goal.returns
returns c =
    c.earliest_timetables_exist.ensures.exist_at c.args.net.now c.args.period.tokens c.args.period.time (ends_below c.args.net.now (net_ends c.args.net.now c.rules.ensures))
    (ready_of_tokens c.args.net.now c.rules.ensures) c.requires
