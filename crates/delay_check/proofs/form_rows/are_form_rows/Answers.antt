use Rattle.std.proofs.Common.{ℕ, length, subst, sym, ◌∙◌}
use Rattle.settled_certificates.specs.SettledRows.{form_by_rows}
use Rattle.delay_laws.specs.Delays.{IsFormOfDelays}
use Rattle.delay_check.proofs.DelayRows.{as_wide}
use Rattle.delay_check.proofs.form_rows.are_form_rows.Goals as goal

pub returns : goal.returns
returns c = λ yes.
    let p = c.args.planned.now in
    let r = c.args.rows.now in
    let form = c.in_ok-derived.ensures.tells.forms _ (c.in_ok-is_form.ensures.shortest c.in_ok-derived.ensures.live yes) in
    let wide = as_wide p.net.now p.period p.table.now (length c.in_ok-derived.derived.transitions) r.dates.now r.after r.turn r.steps.now form in
    subst (λ (n : ℕ). IsFormOfDelays p.net.now p.period p.table.now (form_by_rows n r.dates.now r.after r.turn r.steps.now)) (wide ∙ sym c.requires) form
