use Rattle.std.proofs.Common.{ℕ}
use Rattle.teg_model.proofs.OfNet.{net_ends}
use Rattle.teg_net.specs.Nets.{IsInput}
use Rattle.teg_settle.specs.walk_times.Transfers.{IsTransferOf}
use Rattle.law_examples.proofs.forms.transfer_tells_dates.Goals as goal

pub returns : goal.returns
returns c x u y f g =
    let own : (i : ℕ) → IsInput c.args.net.now i → IsTransferOf c.args.net.now i c.args.transfer.now = λ i is. rw (c.requires.only i is) c.requires.transfer in
    c.dates_are_outputs.ensures.transfers c.args.net.now (net_ends c.args.net.now c.rules.ensures)
    (c.ranked_nets_are_live.ensures c.args.net.now c.args.live.now c.requires.live) x u y (λ i. c.args.transfer.now) f g own
