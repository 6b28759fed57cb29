use Rattle.std.proofs.lemmas.Result.{err_from_is_err_and}
use Rattle.teg_settle.proofs.OwnForms.{own_form, own_refusal, own_slopes}
use Rattle.teg_settle.proofs.limited.settle_within.Goals as goal

pub returns-in_err-found-clause-too_long : goal.returns-in_err-found-clause-too_long
returns-in_err-found-clause-too_long c =
    let why = err_from_is_err_and c.from_residual-in_err-found.result c.from_residual-in_err-found.ensures.1 in
    rw (why.1, why.2) (own_refusal c.args.net.now c.in_ok-releases.releases c.in_ok-releases.ensures c.args.limit _ c.in_err-found.ensures.too_long)

pub returns-clause-form : goal.returns-clause-form
returns-clause-form c = own_form c.args.net.now c.in_ok-releases.releases c.in_ok-releases.ensures _ c.in_ok-settled_of.ensures.form

pub returns-clause-slopes : goal.returns-clause-slopes
returns-clause-slopes c =
    own_slopes c.args.net.now c.in_ok-releases.releases c.in_ok-releases.ensures c.args.live.now c.in_ok-found.ensures.found.ready.1.is_net c.requires.stands _
    c.in_ok-settled_of.ensures.form
