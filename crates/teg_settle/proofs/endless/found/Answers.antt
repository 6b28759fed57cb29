use Rattle.std.proofs.Common.{arith}
use Rattle.teg_check.proofs.Liveness.{ranking_is_live}
use Rattle.teg_settle.proofs.Owning.{own_waits}
use Rattle.teg_settle.proofs.Reaching.{fewer_unseen}
use Rattle.teg_settle.proofs.endless.found.Goals as goal

pub ready_tokens-most-requires-clause-waits : goal.ready_tokens-most-requires-clause-waits
ready_tokens-most-requires-clause-waits c = own_waits c.args.net.now c.args.releases.now c.requires.own.waits

-- rows that are enough show a form, so their number stays below what is enough
pub search-smaller : goal.search-smaller
search-smaller c =
    let net = c.args.net.now in
    let r = c.args.releases.now in
    let most = c.ready_tokens-most in
    let live = ranking_is_live net c.args.live.now c.requires.stands in
    let fewer = fewer_unseen c.least_datings_repeat.ensures net live r c.requires.own most.result most.ensures.ready c.in_ok-rows.rows.count (rw c.in-None.is at c.in_ok-form.ensures) in
    omega (arith, fewer, c.in_ok-rows.ensures.count, c.search.invariant.more)
