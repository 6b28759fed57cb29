use Rattle.std.proofs.Common.{◌≡◌, false, true, refl, subst}
use Rattle.std.specs.Prelude.{AllPairs}
use Rattle.std.proofs.lemmas.List.{take_all}
use Rattle.teg_net.proofs.Distinct.{not_both}
use Rattle.teg_due.proofs.DueOnce.{AreOtherFirings, other_firing, firing_twice}
use Rattle.teg_due.proofs.row_rules.are_once.Goals as goal

pub returns-then-any_same_firing : goal.returns-then-any_same_firing
returns-then-any_same_firing c =
    let twice = c.any_same_firing.ensures.0 c.if-any_same_firing.true in (
      λ (e : false ≡ true). cc,
      λ once. absurd (firing_twice c.args.rows.now c.loop-index.index c.loop-index-test.true twice once),
    )

pub loop-index-preserved : goal.loop-index-preserved
loop-index-preserved c =
    other_firing c.args.rows.now c.loop-index.index c.loop-index-test.true
    (λ any. not_both c.any_same_firing.result c.if-any_same_firing.false (c.any_same_firing.ensures.1 any)) c.loop-index.invariant

pub returns : goal.returns
returns c =
    let once = subst (AllPairs AreOtherFirings) (take_all c.loop-index.index c.args.rows.now c.loop-index-test.false) c.loop-index.invariant in
    (λ t. once, λ o. refl)
