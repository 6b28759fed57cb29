use Rattle.forever_check.proofs.due_rows.is_turning_in.Goals as goal

pub returns : goal.returns
returns c = λ yes. record { by_some = c.is_turning.ensures yes }
