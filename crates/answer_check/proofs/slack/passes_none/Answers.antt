use Rattle.teg_net.proofs.NetRules.{net_ends}
use Rattle.answer_check.proofs.slack.passes_none.Goals as goal

pub returns : goal.returns
returns c y ps circuit has =
    c.rising_numbers_show_no_circuit.ensures c.args.net.now c.args.numbers.now c.args.place (net_ends c.args.net.now c.rules.ensures) (c.shows_no_circuit.ensures.0 y) ps circuit has
