use Rattle.std.proofs.Common.{◌+◌, ◌<◌, ◌≡◌, ◌∙◌, ◌++◌, ◌∷◌, [], length, sym, ap, arith, rules}
use Rattle.teg_settle.specs.settled_laws.SettledForms.{SettledForm, row_of}
use Rattle.walks_by_ends.specs.LatestTimes.{walk_date}
use Rattle.walks_by_ends.proofs.Told.{date_more, dates_to, row_told, rows_wide}
use Rattle.walks_by_ends.proofs.times.LatestTimes.row.Goals as goal

pub date-requires-clause-transition : goal.date-requires-clause-transition
date-requires-clause-transition c =
    let s = c.self.inside in
    omega (arith, c.requires, ap (λ (a : SettledForm). length a.rows) c.self.view_is, rows_wide s.ways s.after s.steps.items)

pub loop-number-preserved : goal.loop-number-preserved
loop-number-preserved c = search (rules, date_more)

pub returns : goal.returns
returns c =
    let s = c.self.inside in
    let t = c.args.transition.index in
    let within : t < length s.ways.net.transitions = omega (arith, c.requires, ap (λ (a : SettledForm). length a.rows) c.self.view_is, rows_wide s.ways s.after s.steps.items) in
    let all : c.loop-number.number ≡ s.after + 1 = omega (arith, c.loop-number-test.false, c.loop-number.auto.number-end) in
    c.loop-number.invariant ∙ (ap (dates_to s.ways t) all ∙ (sym (row_told s.ways s.after s.steps.items t within) ∙ ap (λ (a : SettledForm). row_of a t) c.self.view_is))
