use Rattle.teg_settle.proofs.PartTold.{form_told}
use Rattle.teg_settle.proofs.limited.transfer.Goals as goal

pub returns-clause-form : goal.returns-clause-form
returns-clause-form c =
    let w = c.in_ok-walks.ensures.walks in
    let spread = rw (c.deref.ensures.value, c.deref-2.ensures.value) at c.in_ok-spread.ensures in
    form_told c.args.net.now c.args.input.index c.in_ok-walks.walks.part w.part w.rules c.requires.input c.args._live.now c.requires.stands
    c.in_ok-walks.walks.releases w.alone c.in_ok-form.form c.in_ok-spread.field-0 c.in_ok-form.ensures.form spread
