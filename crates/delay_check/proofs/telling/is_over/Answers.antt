use Rattle.delay_check.proofs.telling.is_over.Goals as goal

pub returns-in-Some : goal.returns-in-Some
returns-in-Some c = λ yes. rw c.in-Some.is (c.is_recovered.ensures yes)
