use Rattle.std.proofs.Common.{rules, ◌≡◌, string_bytes}
use Rattle.delay_check.proofs.DelayRows.{tells_delays}
use Rattle.delay_check.proofs.telling.is_told.Goals as goal

pub returns : goal.returns
returns c = λ yes lines is.
    let p = c.args.planned.now in
    let r = c.args.rows.now in
    let same : string_bytes c.in_ok-told.told ≡ c.args.text.now = search (rules, yes) in
    tells_delays p.net.now p.period p.table.now c.args.text.now c.args.outcome.now lines r.width r.dates.now r.after r.turn r.steps.now
    p.kept c.requires.form r.after_in r.turn_in is (rw same at c.in_ok-told.ensures)
