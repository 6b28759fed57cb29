use Rattle.settled_certificates.proofs.ToldForms.{span_list}
use Rattle.settled_certificates.proofs.told_form.span_of.Goals as goal

pub returns-in-Some : goal.returns-in-Some
returns-in-Some c =
    rw (c.as_slice.ensures, c.every_of.ensures)
    (span_list c.args.net.now c.args.transition.index c.in-Some.list.now c.list_of.ensures.rules c.in-Some.ensures.first)
