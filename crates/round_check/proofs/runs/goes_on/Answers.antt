use Rattle.std.proofs.lemmas.Bool.{iff_false, false≢true}
use Rattle.round_check.proofs.runs.goes_on.Goals as goal

pub follows-requires-clause-round : goal.follows-requires-clause-round
follows-requires-clause-round c = (c.stands.ensures.0 c.if-not-stands.false).round

pub returns : goal.returns
returns c = (λ yes. (c.stands.ensures.0 c.if-not-stands.false, c.in_ok-is_next.ensures.0 yes), λ h. c.in_ok-is_next.ensures.1 h.1)

pub returns-then-not-stands : goal.returns-then-not-stands
returns-then-not-stands c = (λ y. absurd (false≢true y), λ h. absurd (iff_false c.stands.ensures c.if-not-stands.true h.0))
