use Rattle.std.proofs.Common.{true, refl, subst}
use Rattle.std.specs.Prelude.{IfSome, Option}
use Rattle.series_ops.specs.declared.gains.Gain.{Gain}
use Rattle.teg_forever.specs.Divisions.{IsRowResidual}
use Rattle.teg_forever.proofs.Dividing.{row_residual}
use Rattle.teg_forever.proofs.Repeated.{begun_so_far}
use Rattle.teg_forever.proofs.residuals.first_meet.Goals as goal

pub returns-in-Some-clause-meet : goal.returns-in-Some-clause-meet
returns-in-Some-clause-meet c =
    let a = c.args.asked.now in
    let q = c.in-Some.gain in
    let told : IsRowResidual a.net a.rows a.input.index 0 q = subst (λ (o : Option Gain). IfSome o (IsRowResidual a.net a.rows a.input.index 0)) c.in-Some.is c.in_ok-gain.ensures.residual in
    begun_so_far a.net a.rows a.input.index q (record { gain = record { series = q.series }; stays = true }) told c.period.ensures.series refl

pub returns-clause-meet : goal.returns-clause-meet
returns-clause-meet c =
    let a = c.args.asked.now in
    let q = c.residual.result.now in
    begun_so_far a.net a.rows a.input.index q (record { gain = record { series = c.in_ok-series.series }; stays = true })
    (row_residual a.net a.rows a.input.index 0 c.residual_at.new.divisions.list.items c.in_ok-first.first q c.in_ok-first.ensures.residual c.residual.ensures)
    c.duplicate.ensures.series c.in_ok-series.ensures.value
