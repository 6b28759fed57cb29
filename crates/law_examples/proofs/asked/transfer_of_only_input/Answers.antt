use Rattle.law_examples.proofs.Answers.{outputs_by}
use Rattle.teg_model.proofs.OfNet.{net_ends}
use Rattle.law_examples.proofs.asked.transfer_of_only_input.Goals as goal

pub returns : goal.returns
returns c =
    outputs_by c.dates_are_outputs.ensures.transfers c.args.net.now (net_ends c.args.net.now c.rules.ensures)
    (c.ranked_nets_are_live.ensures c.args.net.now c.args.live.now c.requires.live) c.args.input.index c.requires.only c.in_ok-form.form c.in_ok-form.ensures.form
