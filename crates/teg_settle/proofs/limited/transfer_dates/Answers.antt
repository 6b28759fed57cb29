use Rattle.teg_settle.proofs.PartTold.{form_told}
use Rattle.teg_settle.proofs.limited.transfer_dates.Goals as goal

pub returns-clause-form : goal.returns-clause-form
returns-clause-form c =
    let w = c.in_ok-walks.ensures.walks in
    form_told c.args.net.now c.args.input.index c.in_ok-walks.walks.part w.part w.rules c.requires.input c.args._live.now c.requires.stands
    c.in_ok-walks.walks.releases w.alone c.in_ok-dates.dates c.new.result c.in_ok-dates.ensures.form c.new.ensures
