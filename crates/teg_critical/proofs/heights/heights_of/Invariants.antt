use Rattle.std.proofs.Common.{◌*◌, ◌-◌, length}
use Rattle.std.specs.Prelude.{sum_by}
use Rattle.teg_critical.specs.Heights.{most_height, AreHeights}
use Rattle.teg_critical.proofs.heights.heights_of.Given as goal

abbrev pub invariant-rise : goal.invariant-rise
invariant-rise l = AreHeights l.net l.raised l.heights.items

abbrev pub decreases-rise : goal.decreases-rise
decreases-rise l = length l.net.transitions * most_height - sum_by (λ h. h) l.heights.items
