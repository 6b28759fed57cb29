use Rattle.std.proofs.Common.{◌+◌, ◌≡◌, take}
use Rattle.release_nets.specs.DelaysByNumber.{given_in}
use Rattle.release_nets.specs.ReleaseNetsBuilt.{AreBuilt}
use Rattle.release_nets.proofs.releases.given.Given as goal

abbrev pub invariant-loop-delay : goal.invariant-loop-delay
invariant-loop-delay l = AreBuilt (λ s by. by ≡ given_in (take l.delay-index l.table.delays.items) l.transition (s + 1)) l.fn.count l.cells.items
