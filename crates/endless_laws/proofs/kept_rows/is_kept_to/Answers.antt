use Rattle.std.proofs.Common.{◌≡◌, ◌+◌, ◌-◌, subst, arith}
use Rattle.settled_laws.specs.SettledForms.{settled_date}
use Rattle.endless_laws.specs.KeptRows.{KeepsRowTo}
use Rattle.endless_laws.proofs.KeptForms.{keeps_more}
use Rattle.endless_laws.proofs.kept_rows.is_kept_to.Goals as goal

pub loop-number-preserved : goal.loop-number-preserved
loop-number-preserved c =
    let x = settled_date c.args.form.now in
    let n = c.loop-number.number in
    let same : c.loop-number.number ≡ c.loop-number.number + 1 - 1 = omega arith in
    subst (KeepsRowTo x c.args.row.now) same (keeps_more x c.args.row.now n c.loop-number.invariant (c.is_kept_at.ensures.0 c.if-not-is_kept_at.false))
