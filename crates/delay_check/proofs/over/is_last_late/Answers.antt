use Rattle.std.proofs.Common.{inl, inr}
use Rattle.delay_check.proofs.over.is_last_late.Goals as goal

pub returns-then-last-eq0 : goal.returns-then-last-eq0
returns-then-last-eq0 c = λ yes. inl c.if-last-eq0.true

pub returns : goal.returns
returns c = λ yes. inr (c.is_late_at.ensures.late yes)
