use Rattle.std.proofs.Common.{◌≤◌, All, get_or, length, subst, sym}
use Rattle.std.proofs.lemmas.List.{get_or_default, take_all}
use Rattle.teg_due.specs.declared.rows.DueRow.{DueRow}
use Rattle.teg_due.proofs.DueOnce.{no_row}
use Rattle.endless_laws.proofs.KeptForms.{all_more}
use Rattle.forever_check.specs.ReleaseWalks.{IsTurningIn}
use Rattle.forever_check.proofs.due_rows.are_turning.Goals as goal

pub loop-due-preserved : goal.loop-due-preserved
loop-due-preserved c =
    let dues = c.args.dues.now in
    let i = c.loop-due.due-index in
    let due : DueRow = get_or dues i no_row in
    let here : IsTurningIn c.args.turn c.args.rows.now due = c.is_turning_in.ensures c.if-not-is_turning_in.false in
    all_more (IsTurningIn c.args.turn c.args.rows.now) dues i due c.loop-due-test.true (sym (get_or_default dues i due no_row c.loop-due-test.true)) here c.loop-due.invariant

pub returns : goal.returns
returns c = λ yes.
    let past : length c.args.dues.now ≤ c.loop-due.due-index = c.loop-due-test.false in
    subst (All (IsTurningIn c.args.turn c.args.rows.now)) (take_all c.loop-due.due-index c.args.dues.now past) c.loop-due.invariant
