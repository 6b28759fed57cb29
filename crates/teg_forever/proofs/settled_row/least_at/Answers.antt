use Rattle.std.proofs.Common.{◌∙◌}
use Rattle.teg_forever.proofs.settled_row.least_at.Goals as goal

pub returns-in_default : goal.returns-in_default
returns-in_default c =
    let n = c.requires.climbing.numbers c.args.number c.requires.first in
    absurd (c.in_default.not-At _ (c.date.ensures.value ∙ n.1))
