use Rattle.delay_check.proofs.LastDelays.{recovers}
use Rattle.delay_check.proofs.over.is_recovered.Goals as goal

pub returns : goal.returns
returns c = λ yes.
    let p = c.args.planned.now in
    let r = c.args.rows.now in
    recovers p.net.now p.period p.table.now r.width r.dates.now r.after r.turn r.steps.now r.count c.args.last p.kept c.requires.form r.told
    (c.is_over_past.ensures.within c.if-not-is_over_past.false) (c.is_over_past.ensures.none c.if-not-is_over_past.false)
    (c.is_last_late.ensures yes)
