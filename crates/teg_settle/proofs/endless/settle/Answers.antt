use Rattle.teg_settle.proofs.OwnForms.{own_form, own_slopes}
use Rattle.teg_settle.proofs.endless.settle.Goals as goal

pub returns-clause-form : goal.returns-clause-form
returns-clause-form c = own_form c.args.net.now c.in_ok-releases.releases c.in_ok-releases.ensures _ c.in_ok-settled_of.ensures.form

pub returns-clause-slopes : goal.returns-clause-slopes
returns-clause-slopes c =
    own_slopes c.args.net.now c.in_ok-releases.releases c.in_ok-releases.ensures c.args.live.now c.in_ok-found.ensures.ready.1.is_net c.requires.stands _
    c.in_ok-settled_of.ensures.form
