-- That live nets have a greatest ratio, or no circuit (chapter 2).
use Rattle.std.specs.Prelude.{ℕ, ℤ, ◌⊎◌, List, length}
use Rattle.teg_net.specs.Nets.{NetLists}
use Rattle.teg_net.specs.Ratios.{Fraction}
use Rattle.teg_net.specs.Circuits.{IsLive}
use Rattle.teg_net.specs.Parts.{IsPlaceOfPart}
use Rattle.teg_net.specs.GreatestRatios.{IsGreatestRatio, HasNoCircuit, IsAnyPlace}
use Rattle.teg_parts.specs.Partitions.{AreStrong}
use Rattle.teg_loops.specs.Loops.{EndsBelow}
use Rattle.pace_laws.specs.TightPotentials.{AreTightPotentials}

-- a live net has no circuit, or a greatest ratio
abbrev pub NetsHaveRatios : Type 0
NetsHaveRatios = (net : NetLists) → IsLive net → HasNoCircuit net IsAnyPlace ⊎ ((r : Fraction) × IsGreatestRatio net IsAnyPlace r)

-- so does each part of it, over the circuits in the part
abbrev pub PartsHaveRatios : Type 0
PartsHaveRatios =
    (net : NetLists) (part_of : List ℕ) (part : ℕ) → IsLive net
    → HasNoCircuit net (IsPlaceOfPart net part_of part) ⊎ ((r : Fraction) × IsGreatestRatio net (IsPlaceOfPart net part_of part) r)

-- a part's greatest ratio, and potentials that are tight at it
pub record HasPace (net : NetLists) (part_of : List ℕ) (part : ℕ) : Type 0 where
  pub ratio : Fraction
  pub greatest : IsGreatestRatio net (IsPlaceOfPart net part_of part) ratio
  pub potentials : ℕ → ℤ
  pub tight : AreTightPotentials net part_of part ratio.time ratio.tokens potentials

-- each strong part of a live net has no circuit, or both
abbrev pub StrongPartsHaveAPace : Type 0
StrongPartsHaveAPace =
    (net : NetLists) (part_of : List ℕ) (part : ℕ) → EndsBelow net (length net.transitions) → IsLive net → AreStrong net part_of
    → HasNoCircuit net (IsPlaceOfPart net part_of part) ⊎ HasPace net part_of part
