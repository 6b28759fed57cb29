use Rattle.std.proofs.Common.{◌≤◌, All, length, subst}
use Rattle.std.proofs.lemmas.List.{take_all}
use Rattle.endless_laws.proofs.KeptForms.{all_more}
use Rattle.forever_check.specs.ShownReleases.{IsShortestList}
use Rattle.forever_check.proofs.shortest.are_shortest.Goals as goal

pub loop-list-preserved : goal.loop-list-preserved
loop-list-preserved c =
    all_more IsShortestList c.args.lists.now c.loop-list.list-index c.list-item.result c.loop-list-test.true c.list-item.is
    (c.is_shortest.ensures c.if-not-is_shortest.false) c.loop-list.invariant

pub returns : goal.returns
returns c = λ yes.
    let past : length c.args.lists.now ≤ c.loop-list.list-index = c.loop-list-test.false in
    subst (All IsShortestList) (take_all c.loop-list.list-index c.args.lists.now past) c.loop-list.invariant
