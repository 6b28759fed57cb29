-- What holds of paths and circuits: paths split into straight ones and circuits (chapters 2 and 3).
use Rattle.std.specs.Prelude.{ℕ, ◌*◌, ◌<◌, ◌≤◌, ◌↔◌, List, length, Contains}
use Rattle.teg_net.specs.declared.entries.PlaceId.{PlaceId}
use Rattle.teg_net.specs.Nets.{NetLists}
use Rattle.teg_net.specs.Circuits.{from_of, IsPathBetween, IsCircuit}
use Rattle.teg_net.specs.Parts.{to_of, Reaches}
use Rattle.teg_loops.specs.Loops.{EndsBelow, IsStraight, HasLoop, IsSplit}
use Rattle.teg_loops.specs.Shortening.{NoCircuitGains, WeighsAtMost}
use Rattle.teg_loops.specs.ClosedPieces.{HasRound}

-- a path of at least as many places as there are transitions has a loop
abbrev pub LongPathsHaveLoops : Type 0
LongPathsHaveLoops = (net : NetLists) (n : ℕ) (ps : List PlaceId) (a b : ℕ) → EndsBelow net n → b < n → IsPathBetween net a ps b → n ≤ length ps → HasLoop net a b ps

-- each path splits into a straight one between the same transitions, and circuits
abbrev pub PathsSplit : Type 0
PathsSplit = (net : NetLists) (ps : List PlaceId) (a b : ℕ) → IsPathBetween net a ps b
    → (straight : List PlaceId) × (circuits : List (List PlaceId)) × IsSplit net a ps b straight circuits

-- where no circuit gains, each path has a straight one between the same transitions that weighs at least as much
abbrev pub PathsCanBeShortened : Type 0
PathsCanBeShortened = (net : NetLists) (gain cost : PlaceId → ℕ) → NoCircuitGains net gain cost → (ps : List PlaceId) (a b : ℕ) → IsPathBetween net a ps b
    → (qs : List PlaceId) × IsStraight net a qs b × WeighsAtMost gain cost ps qs

-- a path of at least n m places, over n transitions, comes back to one of them with a multiple of m tokens
abbrev pub LongPathsComeRound : Type 0
LongPathsComeRound = (net : NetLists) (n m : ℕ) (ps : List PlaceId) (a b : ℕ) → EndsBelow net n → b < n → IsPathBetween net a ps b → 0 < m → n * m ≤ length ps
    → HasRound net a b m (n * m) ps

-- a circuit passes a place exactly where a path leads back from its end to its start
abbrev pub CircuitsPassWherePathsLeadBack : Type 0
CircuitsPassWherePathsLeadBack = (net : NetLists) (p : PlaceId) → p.index < length net.places
    → ((ps : List PlaceId) × IsCircuit net ps × Contains ps p) ↔ Reaches net (to_of net p) (from_of net p)
