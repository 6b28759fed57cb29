use Rattle.std.proofs.Common.{◌≡◌, ◌∙◌, List, ap, sym}
use Rattle.dioid.specs.Dates.{later_of}
use Rattle.dioid.specs.declared.dates.Date.{Date}
use Rattle.series_form.proofs.Finished.{table_push}
use Rattle.series_ops.specs.ListFunctions.{value_listed}
use Rattle.series_ops.specs.Pieces.{carried_at, joined_at}
use Rattle.series_ops.proofs.PieceLaws.{carried_low, carried_high}
use Rattle.series_ops.proofs.pieces.joined.Goals as goal
use Rattle.series_ops.proofs.pieces.joined.Goals.{then-shift-back, else-shift-back}

pub loop-shift-preserved : goal.loop-shift-preserved
loop-shift-preserved c =
    let carried : c.if-shift-back.carried ≡ carried_at (value_listed c.args.others.now) c.args.back c.args.date c.loop-shift.shift = elim c.if-shift-back.branch [
      | then-shift-back w ↦ w.carried-is ∙ sym (carried_low (value_listed c.args.others.now) c.args.back c.args.date c.loop-shift.shift w.if-shift-back.true)
      | else-shift-back w ↦ w.carried-is ∙ w.added-carried.ensures ∙ sym (carried_high (value_listed c.args.others.now) c.args.back c.args.date c.loop-shift.shift w.if-shift-back.false)
    ] in
    ◌∙◌ {A = List Date} c.in_ok-push.ensures.items (table_push (joined_at (value_listed c.args.sums.now) (value_listed c.args.others.now) c.args.back c.args.date) c.loop-shift.shift
    c.loop-shift.values.items _ c.loop-shift.invariant (c.later.ensures.value ∙ ap (later_of (value_listed c.args.sums.now c.loop-shift.shift)) carried))
