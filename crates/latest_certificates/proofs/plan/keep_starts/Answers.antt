use Rattle.std.proofs.Common.{◌+◌, ◌≡◌, true, false, refl, arith}
use Rattle.std.proofs.lemmas.Bool.{false≢true, iff_false}
use Rattle.latest_certificates.proofs.PlanRows.{starts_more}
use Rattle.latest_certificates.proofs.plan.keep_starts.Goals as goal

pub returns-then-not-keeps_starts : goal.returns-then-not-keeps_starts
returns-then-not-keeps_starts c = (
  λ (e : false ≡ true). absurd (false≢true e),
  λ h. absurd (iff_false (rw c.new.ensures at c.keeps_starts.ensures) c.if-not-keeps_starts.true (h (c.loop-before.before + 1) (omega arith) (omega (arith, c.loop-before-test.true)))),
)

pub loop-before-preserved : goal.loop-before-preserved
loop-before-preserved c = starts_more c.args.told.now c.loop-before.before c.loop-before.invariant ((rw c.new.ensures at c.keeps_starts.ensures).0 c.if-not-keeps_starts.false)

pub returns : goal.returns
returns c = (
  λ e k o m. c.loop-before.invariant k o (omega (arith, m, c.loop-before-test.false)),
  λ h. refl,
)
