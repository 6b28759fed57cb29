use Rattle.std.proofs.Common.{◌<◌, ◌∙◌, length, ap, arith}
use Rattle.periodic_laws.specs.settled_laws.SettledForms.{row_of}
use Rattle.teg_settle.proofs.Showing.{row_copied, rows_shown}
use Rattle.teg_settle.proofs.shown.SettledDates.row.Goals as goal

pub add_dates-requires-clause-transition : goal.add_dates-requires-clause-transition
add_dates-requires-clause-transition c =
    let s = c.self.inside in
    omega (arith, c.requires.transition, ap (λ a. length a.rows) c.self.view_is, rows_shown s.rows s.form s.steps.items)

pub returns : goal.returns
returns c =
    let s = c.self.inside in
    let t = c.args.transition.index in
    let within : t < s.rows.width = omega (arith, c.requires.transition, ap (λ a. length a.rows) c.self.view_is, rows_shown s.rows s.form s.steps.items) in
    record { row = row_copied s.rows s.form s.steps.items t c.add_dates.new.dates.items within c.in_ok-add_dates.ensures ∙ ap (λ a. row_of a t) c.self.view_is }
