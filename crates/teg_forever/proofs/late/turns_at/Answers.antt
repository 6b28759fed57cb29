use Rattle.std.proofs.Common.{arith, ⊎_elim}
use Rattle.std.proofs.lemmas.Bool.{cases_lt}
use Rattle.teg_forever.proofs.late.turns_at.Goals as goal

pub overflow_sub-turns : goal.overflow_sub-turns
overflow_sub-turns c =
    let past = c.requires.past in
    ⊎_elim
    (λ late. absurd (c.requires.turn.in_time c.args.number c.due_at-due.result c.least-least.result c.requires.last
    (record { from_one = omega arith; is_due = rw c.row.ensures.value at c.due_at-due.ensures.due; comes = c.least-least.ensures.least; late = late })))
    (λ low. low)
    (cases_lt c.due_at-due.result c.least-least.result)
