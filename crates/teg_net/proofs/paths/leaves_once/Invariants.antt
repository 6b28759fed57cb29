use Rattle.teg_net.specs.Circuits.{from_of}
use Rattle.teg_net.proofs.Distinct.{ApartUpTo}
use Rattle.teg_net.proofs.paths.leaves_once.Given as goal

-- of the first places none leaves the transition of a later one
abbrev pub invariant-loop-index : goal.invariant-loop-index
invariant-loop-index l = ApartUpTo (from_of l.net) l.places l.index
