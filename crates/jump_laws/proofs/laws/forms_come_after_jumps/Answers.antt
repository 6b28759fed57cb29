use Rattle.jump_laws.proofs.Overtaken.{come_after}
use Rattle.jump_laws.proofs.InLists.{too_long}
use Rattle.jump_laws.proofs.laws.forms_come_after_jumps.Goals as goal

pub returns : goal.returns
returns c = record { forms = come_after; limit = too_long }
