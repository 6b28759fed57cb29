use Rattle.std.proofs.Common.{◌≤◌, All, length, refl, subst}
use Rattle.std.proofs.lemmas.List.{take_all}
use Rattle.settled_laws.specs.SettledForms.{settled_date}
use Rattle.endless_laws.specs.KeptRows.{KeepsRow}
use Rattle.endless_laws.proofs.KeptForms.{all_more}
use Rattle.endless_laws.proofs.kept_rows.keeps_rows.Goals as goal

pub loop-row-preserved : goal.loop-row-preserved
loop-row-preserved c =
    all_more (KeepsRow (settled_date c.args.form.now)) c.args.rows.now c.loop-row.row-index c.row-item.result c.loop-row-test.true c.row-item.is
    (c.in_ok-keeps_row.ensures.0 c.if-not-branch.false) c.loop-row.invariant

pub returns : goal.returns
returns c =
    let past : length c.args.rows.now ≤ c.loop-row.row-index = c.loop-row-test.false in
    (λ yes. subst (All (KeepsRow (settled_date c.args.form.now))) (take_all c.loop-row.row-index c.args.rows.now past) c.loop-row.invariant, λ all. refl)
