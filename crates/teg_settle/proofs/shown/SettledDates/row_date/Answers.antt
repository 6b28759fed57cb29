use Rattle.std.proofs.Common.{length, sym, ap, ◌∙◌, arith}
use Rattle.periodic_laws.specs.settled_laws.SettledForms.{row_date, settled_length}
use Rattle.teg_settle.proofs.Showing.{date_shown, rows_shown}
use Rattle.teg_settle.proofs.shown.SettledDates.row_date.Goals as goal

pub date-requires-clause-transition : goal.date-requires-clause-transition
date-requires-clause-transition c =
    let s = c.self.inside in
    omega (arith, c.requires.transition, ap (λ a. length a.rows) c.self.view_is, rows_shown s.rows s.form s.steps.items)

pub returns : goal.returns
returns c =
    let s = c.self.inside in
    let t = c.args.transition.index in
    let k = c.args.number in
    let wide = rows_shown s.rows s.form s.steps.items in
    let rows = ap (λ a. length a.rows) c.self.view_is in
    let long = ap settled_length c.self.view_is in
    let is = date_shown s.rows s.form s.steps.items t k (omega (arith, c.requires.transition, rows, wide)) c.requires.first (omega (arith, c.requires.last, long)) in
    c.date.ensures ∙ (sym is ∙ ap (λ a. row_date a t k) c.self.view_is)
