use Rattle.teg_forever.proofs.settled_row.SettledRow.least.Goals as goal

pub least_at-requires-clause-climbing : goal.least_at-requires-clause-climbing
least_at-requires-clause-climbing c = c.self.invariant.climbing

pub returns-clause-least : goal.returns-clause-least
returns-clause-least c = rw (← c.self.view_is) c.least_at.ensures.least
