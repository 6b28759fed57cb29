use Rattle.std.proofs.Common.{ℕ, ◌+◌, ◌<◌, ◌≤◌, ◌≡◌, subst, arith, ⊎_elim}
use Rattle.std.proofs.lemmas.Bool.{cases_lt}
use Rattle.forever_check.specs.ReleaseWalks.{IsToldAt}
use Rattle.forever_check.proofs.latest.are_told.Goals as goal

pub loop-before-preserved : goal.loop-before-preserved
loop-before-preserved c = λ k l m.
    ⊎_elim
    (λ (new : c.loop-before.before < k).
    let same : c.loop-before.before + 1 ≡ k = omega (arith, new, m) in
    subst (IsToldAt c.args.net.now c.args.last c.args.dates.now c.args.list.now) same (c.is_told_at.ensures c.if-not-is_told_at.false))
    (λ (old : k ≤ c.loop-before.before). c.loop-before.invariant k l old)
    (cases_lt c.loop-before.before k)

pub returns : goal.returns
returns c = λ yes k l m. c.loop-before.invariant k l (omega (arith, m, c.loop-before-test.false))
