use Rattle.std.proofs.lemmas.Result.{err_from_is_err_and}
use Rattle.teg_settle.specs.ComparedRows.{LeastSettlesPast}
use Rattle.walk_times.specs.Transfers.{TransferSettlesPast}
use Rattle.teg_settle.proofs.Limiting.{refusal_weaker}
use Rattle.teg_settle.proofs.PartTold.{own_there, live_part, input_there, past_told}
use Rattle.teg_settle.proofs.Transferring.{alone_waits}
use Rattle.teg_settle.proofs.limited.walks_found.Goals as goal

pub ranks_of-requires : goal.ranks_of-requires
ranks_of-requires c =
    live_part c.args.net.now c.args.input.index c.in_ok-part.part c.in_ok-part.ensures.part c.part_from.ensures.rules c.requires.input c.args._live.now c.requires.stands

pub ready_tokens-most-requires-clause-waits : goal.ready_tokens-most-requires-clause-waits
ready_tokens-most-requires-clause-waits c =
    let there = input_there c.args.net.now c.args.input.index c.in_ok-part.part c.in_ok-part.ensures.part c.part_from.ensures.rules c.requires.input in
    let own = own_there c.args.net.now c.args.input.index c.in_ok-part.part c.in_ok-part.ensures.part c.requires.input _ c.index.ensures in
    let alone = rw own at c.in_ok-releases.ensures in
    alone_waits c.in_ok-part.part.net c.in_ok-releases.releases _ there alone.waits

pub returns-in_err-found-clause-too_long : goal.returns-in_err-found-clause-too_long
returns-in_err-found-clause-too_long c =
    let net = c.args.net.now in
    let limit = c.args.limit in
    let r = c.in_ok-releases.releases in
    let own = own_there c.args.net.now c.args.input.index c.in_ok-part.part c.in_ok-part.ensures.part c.requires.input _ c.index.ensures in
    let alone = rw own at c.in_ok-releases.ensures in
    let why = err_from_is_err_and c.from_residual-in_err-found.result c.from_residual-in_err-found.ensures.1 in
    rw (why.1, why.2) (refusal_weaker (LeastSettlesPast c.in_ok-part.part.net r limit) (TransferSettlesPast net c.args.input.index limit) limit _
    (past_told net c.args.input.index c.in_ok-part.part c.in_ok-part.ensures.part c.part_from.ensures.rules c.requires.input c.args._live.now c.requires.stands r alone limit)
    c.in_err-found.ensures.too_long)

pub returns-clause-walks : goal.returns-clause-walks
returns-clause-walks c =
    let own = own_there c.args.net.now c.args.input.index c.in_ok-part.part c.in_ok-part.ensures.part c.requires.input _ c.index.ensures in
    let alone = rw own at c.in_ok-releases.ensures in
    record { rules = c.part_from.ensures.rules; part = c.in_ok-part.ensures.part; alone = alone; found = c.in_ok-found.ensures.found }
