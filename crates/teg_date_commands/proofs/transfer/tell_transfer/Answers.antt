use Rattle.std.proofs.Common.{inl, refl}
use Rattle.teg_date_commands.proofs.transfer.tell_transfer.Goals as goal

pub returns-in-Ok : goal.returns-in-Ok
returns-in-Ok c = inl (refl, rw c.get-limit.ensures.value at c.in-Ok.ensures.text)
