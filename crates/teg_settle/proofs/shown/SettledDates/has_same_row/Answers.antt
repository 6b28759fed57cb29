use Rattle.std.proofs.Common.{◌<◌, ◌∙◌, length, sym, ap, arith}
use Rattle.periodic_laws.specs.settled_laws.SettledForms.{row_of}
use Rattle.teg_settle.proofs.Showing.{rows_shown, same_rows}
use Rattle.teg_settle.proofs.shown.SettledDates.has_same_row.Goals as goal

pub date-date-requires-clause-transition : goal.date-date-requires-clause-transition
date-date-requires-clause-transition c =
    let s = c.self.inside in
    omega (arith, c.requires.first, ap (λ a. length a.rows) c.self.view_is, rows_shown s.rows s.form s.steps.items)

pub date-twin-requires-clause-transition : goal.date-twin-requires-clause-transition
date-twin-requires-clause-transition c =
    let s = c.self.inside in
    omega (arith, c.requires.other, ap (λ a. length a.rows) c.self.view_is, rows_shown s.rows s.form s.steps.items)

pub returns : goal.returns
returns c = λ yes.
    let s = c.self.inside in
    let wide = rows_shown s.rows s.form s.steps.items in
    let view = ap (λ a. length a.rows) c.self.view_is in
    let here : c.args.first.index < s.rows.width = omega (arith, c.requires.first, view, wide) in
    let there : c.args.other.index < s.rows.width = omega (arith, c.requires.other, view, wide) in
    sym (ap (λ a. row_of a c.args.first.index) c.self.view_is)
    ∙ (same_rows s.rows s.form s.steps.items c.args.first.index c.args.other.index here there (λ k o m. c.loop-number.invariant k o (omega (arith, m)))
    ∙ ap (λ a. row_of a c.args.other.index) c.self.view_is)
