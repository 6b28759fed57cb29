use Rattle.std.proofs.lemmas.Bool.{iff_false, false≢true}
use Rattle.round_check.proofs.others.is_end.Goals as goal

pub returns : goal.returns
returns c = (λ yes. (c.is_answer_of.ensures.0 c.if-not-is_answer_of.false, c.in_ok-is_last.ensures.0 yes), λ h. c.in_ok-is_last.ensures.1 h.1)

pub returns-then-not-is_answer_of : goal.returns-then-not-is_answer_of
returns-then-not-is_answer_of c = (λ y. absurd (false≢true y), λ h. absurd (iff_false c.is_answer_of.ensures c.if-not-is_answer_of.true h.0))
