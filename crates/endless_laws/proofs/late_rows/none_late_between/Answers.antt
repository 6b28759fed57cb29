use Rattle.std.proofs.Common.{◌≡◌, ◌+◌, ◌-◌, sym, ◌∙◌, subst, arith}
use Rattle.std.proofs.lemmas.Bool.{false≢true}
use Rattle.settled_laws.specs.SettledForms.{settled_date}
use Rattle.endless_laws.specs.LateRows.{NoneLateBetween}
use Rattle.endless_laws.proofs.LateRows.{none_more}
use Rattle.endless_laws.proofs.late_rows.none_late_between.Goals as goal

pub loop-number-preserved : goal.loop-number-preserved
loop-number-preserved c =
    let x = settled_date c.args.form.now in
    let n = c.loop-number.number in
    let same : c.loop-number.number ≡ c.loop-number.number + 1 - 1 = omega arith in
    subst (NoneLateBetween x c.args.row.now c.args.past) same
    (none_more x c.args.row.now c.args.past n c.loop-number.invariant (λ due least late. false≢true (sym c.if-is_late_at.false ∙ c.is_late_at.ensures.1 (due, least, late))))
