use Rattle.std.proofs.Common.{ℕ, ◌+◌, ◌-◌, ◌*◌, get_or, ap, sym, ◌∙◌, arith}
use Rattle.dioid.specs.declared.dates.Date.{Date}
use Rattle.dioid.specs.declared.dates.Date.TheVariants.{Early}
use Rattle.delay_laws.specs.SettlingLaws.{natural_of_date}
use Rattle.delay_check.proofs.DelayRows.{delay_is}
use Rattle.delay_check.proofs.spread_text.delay_at.Goals as goal

pub returns : goal.returns
returns c =
    let r = c.args.rows.now in
    let p = c.args.planned.now in
    let i = c.args.index in
    let k = c.args.before in
    c.above.ensures
    ∙ (ap (λ (d : Date). natural_of_date d - c.planned_date-planned.result) c.date_at-date.ensures
    ∙ (ap (λ (n : ℕ). natural_of_date (get_or r.dates.now (k * r.width + i) Early) - n) c.planned_date-planned.ensures
    ∙ sym (delay_is r.width r.dates.now r.after r.turn r.steps.now p.period p.table.now i k c.requires.wide (omega (arith, c.requires.before, r.told)))))
