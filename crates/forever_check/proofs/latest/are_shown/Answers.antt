use Rattle.std.proofs.Common.{◌≤◌, All, length, subst}
use Rattle.std.proofs.lemmas.List.{take_all}
use Rattle.endless_laws.proofs.KeptForms.{all_more}
use Rattle.forever_check.specs.ReleaseWalks.{IsReleaseShown}
use Rattle.forever_check.proofs.latest.are_shown.Goals as goal

pub loop-list-preserved : goal.loop-list-preserved
loop-list-preserved c =
    all_more (IsReleaseShown c.args.net.now c.args.rows.now) c.args.lists.now c.loop-list.list-index c.list-item.result c.loop-list-test.true c.list-item.is
    (c.in_ok-is_shown.ensures c.if-not-branch.false) c.loop-list.invariant

pub returns : goal.returns
returns c = λ yes.
    let past : length c.args.lists.now ≤ c.loop-list.list-index = c.loop-list-test.false in
    subst (All (IsReleaseShown c.args.net.now c.args.rows.now)) (take_all c.loop-list.list-index c.args.lists.now past) c.loop-list.invariant
