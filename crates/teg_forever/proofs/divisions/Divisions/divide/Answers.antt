use Rattle.std.proofs.Common.{◌≡◌, Ok, subst, sym}
use Rattle.std.specs.Prelude.{Option}
use Rattle.series_ops.specs.declared.gains.Gain.{Gain}
use Rattle.series_ops.specs.Gains.{gain_left, LeftFits}
use Rattle.steady_series.specs.Cuts.{IsToldOf}
use Rattle.teg_forever.specs.declared.divisions.Divided.{Divided}
use Rattle.teg_forever.specs.Divisions.{IsDividedAt}
use Rattle.teg_forever.specs.LateFirings.{IsGoingRow}
use Rattle.teg_forever.proofs.Dividing.{divided, divisions_kept, kept_place, misfit}
use Rattle.teg_forever.proofs.Residues.{each_ok}
use Rattle.teg_forever.proofs.Series.{got}
use Rattle.teg_forever.proofs.divisions.Divisions.divide.Goals as goal

pub due_gain-requires : goal.due_gain-requires
due_gain-requires c = subst IsGoingRow (sym c.index-rows-due.is) (c.requires.rows c.args.due c.index-rows-due.result c.requires.due)

pub returns-in-Ok-left-clause-divisions : goal.returns-in-Ok-left-clause-divisions
returns-in-Ok-left-clause-divisions c =
    let x : Divided = record { due = c.args.due; walk = c.args.walk; residual = c.in-Ok-left.residual } in
    divisions_kept c.args.rows.now c.args.self.now c.keep-in-Ok-left.new.self x c.keep-in-Ok-left.result c.requires.divisions c.keep-in-Ok-left.ensures.firsts c.keep-in-Ok-left.ensures.steady
    (divided c.args.rows.now c.args.due c.index-rows-due.result c.args.walk c.in-Ok.asked c.in-Ok-left.residual
    (got c.args.rows.now c.args.due c.index-rows-due.result c.requires.due c.index-rows-due.is) c.in-Ok.ensures c.in-Ok-left.ensures.answer.0 c.in-Ok-left.ensures.answer.1)
    c.keep-in-Ok-left.ensures.kept

pub returns-in-Ok-left-clause-place : goal.returns-in-Ok-left-clause-place
returns-in-Ok-left-clause-place c =
    let x : Divided = record { due = c.args.due; walk = c.args.walk; residual = c.in-Ok-left.residual } in
    each_ok c.keep-in-Ok-left.result _ (IsDividedAt c.keep-in-Ok-left.new.self.list.items c.args.due c.args.walk) c.keep-in-Ok-left.ensures.kept (λ place h. kept_place c.args.self.now.list.items c.keep-in-Ok-left.new.self.list.items x place h)

pub returns-in-Err-left-clause-misfit : goal.returns-in-Err-left-clause-misfit
returns-in-Err-left-clause-misfit c =
    misfit c.args.rows.now c.args.due c.index-rows-due.result c.args.walk c.in-Ok.asked c.in-Err-left.why
    (got c.args.rows.now c.args.due c.index-rows-due.result c.requires.due c.index-rows-due.is) c.in-Ok.ensures c.in-Err-left.ensures.answer

pub returns-in-Ok-Some-clause-divisions : goal.returns-in-Ok-Some-clause-divisions
returns-in-Ok-Some-clause-divisions c =
    let x : Divided = record { due = c.args.due; walk = c.args.walk; residual = c.in-Ok-Some.residual } in
    let answer : (c.in-Ok-Some.residual ≡ gain_left c.args.walk c.in-Ok.asked) × LeftFits c.args.walk c.in-Ok.asked =
    subst (λ (told : Option Gain). IsToldOf c.args.walk c.in-Ok.asked (Ok told)) c.in-Ok-Some.field-0-is (subst (IsToldOf c.args.walk c.in-Ok.asked) c.in-Ok-Some.is c.left_by_first.ensures) in
    divisions_kept c.args.rows.now c.args.self.now c.keep.new.self x c.keep.result c.requires.divisions c.keep.ensures.firsts c.keep.ensures.steady
    (divided c.args.rows.now c.args.due c.index-rows-due.result c.args.walk c.in-Ok.asked c.in-Ok-Some.residual
    (got c.args.rows.now c.args.due c.index-rows-due.result c.requires.due c.index-rows-due.is) c.in-Ok.ensures answer.0 answer.1)
    c.keep.ensures.kept

pub returns-in-Ok-Some-clause-place : goal.returns-in-Ok-Some-clause-place
returns-in-Ok-Some-clause-place c =
    let x : Divided = record { due = c.args.due; walk = c.args.walk; residual = c.in-Ok-Some.residual } in
    each_ok c.keep.result _ (IsDividedAt c.keep.new.self.list.items c.args.due c.args.walk) c.keep.ensures.kept (λ place h. kept_place c.args.self.now.list.items c.keep.new.self.list.items x place h)
