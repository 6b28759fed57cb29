use Rattle.std.proofs.Common.{subst, arith}
use Rattle.std.specs.Prelude.{IfSome, Option}
use Rattle.series_ops.specs.declared.gains.Gain.{Gain}
use Rattle.forever_laws.specs.SeriesColumns.{IsDueSeries}
use Rattle.teg_forever.proofs.SteadyLeads.{row_refused, row_told}
use Rattle.teg_forever.proofs.residuals.residual_by_lead.Goals as goal

pub steady-requires : goal.steady-requires
steady-requires c = let long = c.requires.divisions.steady.long in omega (arith, long, c.requires.place)

pub walk_residual-requires : goal.walk_residual-requires
walk_residual-requires c = c.row-row.ensures.rules.in_range

pub returns-in-Ok-clause-residual : goal.returns-in-Ok-clause-residual
returns-in-Ok-clause-residual c =
    let a = c.args.asked.now in
    let i = c.args.place in
    let r = c.row-row.result.now in
    let is : IsDueSeries r c.in-Some.due.now.series = subst (λ (o : Option Gain). IfSome o (λ due. IsDueSeries r due.series)) c.in-Some.ensures (c.requires.divisions.steady.each i r c.requires.place c.row-row.ensures.stands) in
    row_told a.net a.rows i r c.row-row.ensures.stands c.in-Some.due.now is a.input.index c.in-Ok.told c.in-Ok.ensures

pub returns-in-Err-clause-refused : goal.returns-in-Err-clause-refused
returns-in-Err-clause-refused c =
    let a = c.args.asked.now in
    let i = c.args.place in
    let r = c.row-row.result.now in
    let is : IsDueSeries r c.in-Some.due.now.series = subst (λ (o : Option Gain). IfSome o (λ due. IsDueSeries r due.series)) c.in-Some.ensures (c.requires.divisions.steady.each i r c.requires.place c.row-row.ensures.stands) in
    rw (c.refusal_at.ensures, c.input.ensures) (row_refused a.net a.rows i r c.row-row.ensures.stands c.in-Some.due.now is a.input c.in-Err.why c.in-Err.ensures)
