use Rattle.std.proofs.Common.{◌+◌, ◌≡◌, true, false, refl, arith}
use Rattle.std.proofs.lemmas.Bool.{false≢true, iff_false}
use Rattle.latest_certificates.proofs.SolvedRows.{solved_more}
use Rattle.latest_certificates.proofs.latest.are_solved.Goals as goal

pub returns-then-not-is_solved : goal.returns-then-not-is_solved
returns-then-not-is_solved c = (
  λ (e : false ≡ true). absurd (false≢true e),
  λ h. absurd (iff_false (rw c.new.ensures at c.is_solved.ensures.solved) c.if-not-is_solved.true (h (c.loop-before.before + 1) (omega arith) (omega (arith, c.loop-before-test.true)))),
)

pub loop-before-preserved : goal.loop-before-preserved
loop-before-preserved c = (
  c.is_solved.ensures.full,
  solved_more c.args.told.now c.args.rows.now c.loop-before.before c.loop-before.invariant.1 ((rw c.new.ensures at c.is_solved.ensures.solved).0 c.if-not-is_solved.false),
)

pub returns : goal.returns
returns c = (
  λ e k o m. c.loop-before.invariant.1 k o (omega (arith, m, c.loop-before-test.false)),
  λ h. refl,
)
