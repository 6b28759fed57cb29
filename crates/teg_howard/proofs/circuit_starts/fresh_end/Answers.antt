use Rattle.std.proofs.lemmas.Bool.{iff_false}
use Rattle.teg_howard.proofs.circuit_starts.fresh_end.Goals as goal

pub returns-then-is_own-clause-some : goal.returns-then-is_own-clause-some
returns-then-is_own-clause-some c = (c.pass-end.ensures, c.is_own.ensures.0 c.if-is_own.true)

pub returns-else-is_own-clause-none : goal.returns-else-is_own-clause-none
returns-else-is_own-clause-none c = (c.pass-end.result, c.pass-end.ensures, iff_false c.is_own.ensures c.if-is_own.false)
