use Rattle.teg_forever.proofs.settled_row.SettledRow.row.Goals as goal

pub returns-clause-goes_on : goal.returns-clause-goes_on
returns-clause-goes_on c = (c.self.invariant.net, c.self.invariant.row)
