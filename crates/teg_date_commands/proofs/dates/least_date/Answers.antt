use Rattle.std.proofs.Common.{length, ◌≡◌, ◌∙◌}
use Rattle.settled_laws.specs.SettledForms.{settled_date, IsSettledFormOf}
use Rattle.teg_date_commands.proofs.dates.least_date.Goals as goal

pub returns-in_ok-settled-in-Some-clause-date : goal.returns-in_ok-settled-in-Some-clause-date
returns-in_ok-settled-in-Some-clause-date c =
    let net = c.args.net.now in
    let settled = c.in_ok-settled-in-Some.settled in
    let form : IsSettledFormOf net settled = rw c.net.ensures.net at c.in_ok-settled-in-Some.ensures.form in
    let t = c.args.transition.index in
    let k = c.args.number in
    let tells : settled_date settled t k ≡ form.0 t k =
    c.forms_tell_dates.ensures (length net.transitions) settled form.0 form.2.stands t k c.requires.transition c.requires.first in
    (form.0, form.1, c.date.ensures.value ∙ tells)
