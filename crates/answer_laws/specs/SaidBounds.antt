-- What the checker of a bound shows is what the command says.
use Rattle.std.specs.Prelude.{ℕ, ◌↔◌, List}
use Rattle.teg_net.specs.Circuits.{IsLive}
use Rattle.teg_net.specs.Nets.{NetLists, IsNet}
use Rattle.teg_outcome.specs.declared.outcome.Verdict.TheVariants.{Done as VerdictDone}
use Rattle.teg_pace_commands.specs.Bound.{SaysBound}
use Rattle.bound_check.specs.declared.bound.ShownBound.{ShownBound}
use Rattle.bound_check.specs.ShownBounds.{IsShownBound}

-- a text is shown to be that of a bound of the net, or of why it has none, just where the net is live and this is said
abbrev pub ShownBoundsAreSaid : Type 0
ShownBoundsAreSaid =
    (net : NetLists) (text : List ℕ) → IsNet net → ((shown : ShownBound) × IsShownBound net text shown) ↔ (IsLive net × SaysBound net VerdictDone text)
