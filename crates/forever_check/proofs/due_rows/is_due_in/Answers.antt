use Rattle.forever_check.proofs.due_rows.is_due_in.Goals as goal

pub returns : goal.returns
returns c = λ yes. record { by_some = c.is_due.ensures yes }
