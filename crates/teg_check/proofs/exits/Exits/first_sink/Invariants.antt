use Rattle.std.proofs.Common.{ℕ, ◌<◌}
use Rattle.teg_check.specs.Exits.{AreExitsLeft, HasNoExit, IsUnranked}
use Rattle.teg_check.proofs.exits.Exits.first_sink.Given as goal

abbrev pub invariant-loop-t : goal.invariant-loop-t
invariant-loop-t l =
    AreExitsLeft l.net l.ranked l.self.leaving l.self.passed.items
    × ((k : ℕ) → k < l.t → IsUnranked l.ranked k → HasNoExit l.net l.ranked k → ⊥)
