use Rattle.settled_laws.specs.SettledForms.{settled_date}
use Rattle.endless_laws.proofs.LateRows.{near_tells}
use Rattle.endless_laws.proofs.late_rows.none_late_near.Goals as goal

pub returns : goal.returns
returns c =
    let law = near_tells (settled_date c.args.form.now) c.args.row.now c.args.window.past c.args.window.turn c.args.number c.last_to-first.result c.saturating_sub-past.result
    c.requires.first c.last_to-first.ensures.all c.last_to-first.ensures.before c.saturating_sub-past.ensures in
    (λ yes. law.0 (c.none_late_in.ensures.0 yes), λ near. c.none_late_in.ensures.1 (law.1 near))
