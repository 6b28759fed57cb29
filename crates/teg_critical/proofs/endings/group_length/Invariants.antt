use Rattle.std.proofs.Common.{◌≡◌, ◌<◌, ◌≤◌, ◌-◌, get_or, length, take}
use Rattle.std.specs.Prelude.{All}
use Rattle.teg_critical.proofs.endings.group_length.Given as goal

abbrev pub invariant-same : goal.invariant-same
invariant-same l = (0 < l.count) × (l.count ≤ length l.order) × All (λ e. e.end ≡ (get_or l.order 0 e).end) (take l.count l.order)

abbrev pub decreases-same : goal.decreases-same
decreases-same l = length l.order - l.count
