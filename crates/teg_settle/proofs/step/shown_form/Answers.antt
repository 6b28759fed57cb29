use Rattle.teg_check.proofs.Liveness.{ranking_is_live}
use Rattle.teg_settle.proofs.Owning.{own_waits}
use Rattle.teg_settle.proofs.Steps.{rows_of_own, enough_show, shown_by, none_shown}
use Rattle.teg_settle.proofs.step.shown_form.Goals as goal

pub ready_tokens-most-requires-clause-waits : goal.ready_tokens-most-requires-clause-waits
ready_tokens-most-requires-clause-waits c = own_waits c.args.net.now c.args.releases.now c.requires.releases.waits

pub seen_one_by_one-requires-clause-rows : goal.seen_one_by_one-requires-clause-rows
seen_one_by_one-requires-clause-rows c = rows_of_own c.args.net.now c.args.releases.now c.requires.releases c.args.rows.now c.count-count.ensures.limits c.requires.rows c.requires.few

pub returns : goal.returns
returns c =
    let net = c.args.net.now in
    let r = c.args.releases.now in
    let own = c.requires.releases in
    let most = c.ready_tokens-most in
    let h = most.ensures.ready in
    record {
      form = shown_by net r own most.result h c.args.rows.now c.seen_one_by_one.result c.seen_one_by_one.ensures;
      none = none_shown net r own most.result h c.args.rows.now c.seen_one_by_one.result most.ensures.few c.seen_one_by_one.ensures;
      enough = enough_show net r own most.result h c.least_datings_repeat.ensures
          (ranking_is_live net c.args._live.now c.requires.stands) c.args.rows.now c.seen_one_by_one.result most.ensures.few c.seen_one_by_one.ensures;
    }
