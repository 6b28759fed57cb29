use Rattle.std.proofs.Common.{◌*◌, ◌-◌, length}
use Rattle.std.specs.Prelude.{sum_by}
use Rattle.witness_check.specs.Climbs.{AreClimbs}
use Rattle.witness_check.proofs.climbs.rising_numbers.Given as goal

abbrev pub invariant-rise : goal.invariant-rise
invariant-rise l = AreClimbs l.net l.each l.numbers.items

abbrev pub decreases-rise : goal.decreases-rise
decreases-rise l = length l.net.transitions * length l.net.transitions - sum_by (λ z. z) l.numbers.items
