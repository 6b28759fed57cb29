-- What the checker of rounds shows is what the command says.
use Rattle.std.specs.Prelude.{ℕ, ◌↔◌, List}
use Rattle.teg_net.specs.Circuits.{IsLive}
use Rattle.teg_net.specs.GreatestRatios.{HasNoCircuit, IsAnyPlace}
use Rattle.teg_net.specs.Nets.{NetLists, IsNet}
use Rattle.teg_net.specs.Ratios.{Fraction}
use Rattle.teg_outcome.specs.declared.outcome.Verdict.TheVariants.{Done as VerdictDone}
use Rattle.teg_pace_commands.specs.Cycle.{SaysRounds}
use Rattle.round_check.specs.ShownRounds.{IsShownRounds}

-- a text is shown to be that of cycle times with their rounds just where the net is live, has a circuit, and this is said
abbrev pub ShownRoundsAreSaid : Type 0
ShownRoundsAreSaid =
    (net : NetLists) (text : List ℕ) → IsNet net →
    ((ratio : Fraction) × IsShownRounds net text ratio) ↔ (IsLive net × (HasNoCircuit net IsAnyPlace → ⊥) × SaysRounds net VerdictDone text)
