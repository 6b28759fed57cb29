use Rattle.teg_settle.proofs.OwnForms.{own_form}
use Rattle.teg_settle.proofs.endless.settle_dates.Goals as goal

pub returns : goal.returns
returns c = record { form = own_form c.args.net.now c.in_ok-releases.releases c.in_ok-releases.ensures _ c.in_ok-of_found.ensures.form }
