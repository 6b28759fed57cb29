use Rattle.std.proofs.Common.{◌≡◌, None, arith}
use Rattle.std.proofs.lemmas.List.{length-set}
use Rattle.teg_parts.proofs.Marks.{none_by, some_by}
use Rattle.policy_rounds.specs.PolicyLists.{policy_of}
use Rattle.teg_howard.specs.CircuitStarts.{walk_at}
use Rattle.policy_rounds.proofs.Back.{on_back}
use Rattle.teg_howard.proofs.Passing.{passing_less, passing_more, passing_done}
use Rattle.teg_howard.proofs.circuit_starts.pass.Goals as goal

pub back-smaller : goal.back-smaller
back-smaller c =
    let none : walk_at c.back.passed c.back.at ≡ None = none_by (walk_at c.back.passed c.back.at) c.is_none.result c.is_none.ensures c.back-test.true in
    passing_less c.args.net.now (policy_of c.args.policy.now) c.back.passed c.back.at c.args.start c.back.invariant.in_range none

pub back-preserved : goal.back-preserved
back-preserved c =
    let net = c.args.net.now in
    let π = policy_of c.args.policy.now in
    let h = c.back.invariant in
    let at = c.back.at in
    let none : walk_at c.back.passed at ≡ None = none_by (walk_at c.back.passed at) c.is_none.result c.is_none.ensures c.back-test.true in
    let next = on_back net π at h.on_policy in
    rw c.place_into.ensures
    (record {
      passing = passing_more net π c.args.start c.args.passed.now c.back.passed at h.passing h.in_range none;
      on_policy = next;
      in_range = omega (arith, next.member.in_range, next.count, c.requires.count, c.requires.count_passed, h.passing.count, length-set c.back.passed at);
    })

pub returns : goal.returns
returns c =
    passing_done c.args.net.now (policy_of c.args.policy.now) c.args.start c.args.passed.now c.back.passed c.back.at c.back.invariant.passing
    (some_by (walk_at c.back.passed c.back.at) c.is_none.result c.is_none.ensures c.back-test.false)
