use Rattle.std.proofs.Common.{◌+◌, ◌<◌, ◌≡◌, ◌∙◌, ◌++◌, ◌∷◌, [], length, sym, ap, arith, rules}
use Rattle.teg_settle.specs.settled_laws.SettledForms.{SettledForm, row_of}
use Rattle.walks_by_ends.proofs.Told.{date_more, dates_to, row_told, rows_wide}
use Rattle.walks_by_ends.proofs.times.LatestTimes.has_same_row.Goals as goal

pub date-date-requires-clause-transition : goal.date-date-requires-clause-transition
date-date-requires-clause-transition c =
    let s = c.self.inside in
    omega (arith, c.requires.first, ap (λ (a : SettledForm). length a.rows) c.self.view_is, rows_wide s.ways s.after s.steps.items)

pub date-twin-requires-clause-transition : goal.date-twin-requires-clause-transition
date-twin-requires-clause-transition c =
    let s = c.self.inside in
    omega (arith, c.requires.other, ap (λ (a : SettledForm). length a.rows) c.self.view_is, rows_wide s.ways s.after s.steps.items)

pub loop-number-preserved : goal.loop-number-preserved
loop-number-preserved c = search (rules, date_more)

pub returns : goal.returns
returns c = λ yes.
    let s = c.self.inside in
    let u = c.args.first.index in
    let v = c.args.other.index in
    let view = ap (λ (a : SettledForm). length a.rows) c.self.view_is in
    let here : u < length s.ways.net.transitions = omega (arith, c.requires.first, view, rows_wide s.ways s.after s.steps.items) in
    let there : v < length s.ways.net.transitions = omega (arith, c.requires.other, view, rows_wide s.ways s.after s.steps.items) in
    let all : c.loop-number.number ≡ s.after + 1 = omega (arith, c.loop-number-test.false, c.loop-number.auto.number-end) in
    sym (ap (λ (a : SettledForm). row_of a u) c.self.view_is)
    ∙ (row_told s.ways s.after s.steps.items u here
    ∙ (sym (ap (dates_to s.ways u) all)
    ∙ (c.loop-number.invariant
    ∙ (ap (dates_to s.ways v) all
    ∙ (sym (row_told s.ways s.after s.steps.items v there)
    ∙ ap (λ (a : SettledForm). row_of a v) c.self.view_is)))))
