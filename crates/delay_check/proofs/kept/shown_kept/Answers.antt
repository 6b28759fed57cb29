use Rattle.std.proofs.Common.{rules}
use Rattle.delay_check.proofs.kept.shown_kept.Goals as goal

pub returns : goal.returns
returns c =
    let same = rw c.in-Some-2.is at c.in_ok-planned.ensures in
    let shown = c.in_ok-shows.ensures (search rules) in
    rw (same.0, same.1, same.2) at shown
