-- What the text shows that a net has no circuit.
use Rattle.std.specs.Prelude.{ℕ, ◌≡◌, ◌∷◌, [], List, codes}
use Rattle.teg_net.specs.GreatestRatios.{HasNoCircuit, IsAnyPlace}
use Rattle.teg_net.specs.Nets.{NetLists}
use Rattle.teg_text.specs.Lines.{phrase, written}

-- the whole text is the line that the net has no circuit
abbrev pub TellsNoCircuit : List ℕ → Type 0
TellsNoCircuit text = text ≡ written (phrase (codes "no circuit") ∷ [])

-- the text tells that the net has no circuit, and so it is
pub record IsShownNoCircuit (net : NetLists) (text : List ℕ) : Type 0 where
  pub none : HasNoCircuit net IsAnyPlace
  pub told : TellsNoCircuit text
