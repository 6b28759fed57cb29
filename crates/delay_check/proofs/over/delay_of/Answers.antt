use Rattle.std.proofs.Common.{ℕ, ◌+◌, ◌-◌, ◌≡◌, ap, ◌∙◌, arith}
use Rattle.delay_check.specs.DelayRows.{delay_by_rows}
use Rattle.delay_check.proofs.over.delay_of.Goals as goal

pub returns : goal.returns
returns c =
    let r = c.args.rows.now in
    let p = c.args.planned.now in
    let back : (c.args.number - 1) + 1 ≡ c.args.number = omega (arith, c.requires.first) in
    c.delay_at.ensures
    ∙ ap (λ (k : ℕ). delay_by_rows r.width r.dates.now r.after r.turn r.steps.now p.period p.table.now c.args.index k) back
