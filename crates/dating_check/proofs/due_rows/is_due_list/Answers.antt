use Rattle.std.proofs.Common.{rules}
use Rattle.dating_check.proofs.due_rows.is_due_list.Goals as goal

pub returns-clause-due : goal.returns-clause-due
returns-clause-due c = λ yes. record { each = search rules; once = rw c.deref-2.ensures.value at (c.in_ok-once.ensures.once yes) }
