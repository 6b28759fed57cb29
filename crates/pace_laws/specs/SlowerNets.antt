-- The greatest ratios of slower nets (chapter 2).
use Rattle.std.specs.Prelude.{ℕ, ◌*◌, ◌≤◌, List}
use Rattle.teg_net.specs.Nets.{NetLists}
use Rattle.teg_net.specs.Circuits.{IsLive}
use Rattle.teg_net.specs.Parts.{IsPlaceOfPart}
use Rattle.teg_net.specs.Ratios.{Fraction}
use Rattle.teg_net.specs.GreatestRatios.{IsGreatestRatio, IsAnyPlace}
use Rattle.change_laws.specs.SlowerNets.{HasSlowerPlaces}

-- the greatest ratio of a net is at most that of a slower one
abbrev pub SlowerNetsHaveMore : Type 0
SlowerNetsHaveMore =
    (net slower : NetLists) (r s : Fraction) → HasSlowerPlaces net slower → IsGreatestRatio net IsAnyPlace r → IsGreatestRatio slower IsAnyPlace s
    → r.time * s.tokens ≤ s.time * r.tokens

-- and so is that of a part of it, over the circuits in the part
abbrev pub SlowerPartsHaveMore : Type 0
SlowerPartsHaveMore =
    (net slower : NetLists) (part_of : List ℕ) (part : ℕ) (r s : Fraction) → HasSlowerPlaces net slower
    → IsGreatestRatio net (IsPlaceOfPart net part_of part) r → IsGreatestRatio slower (IsPlaceOfPart slower part_of part) s → r.time * s.tokens ≤ s.time * r.tokens

-- a net is live where a slower one is
abbrev pub LiveBySlower : Type 0
LiveBySlower = (net slower : NetLists) → HasSlowerPlaces net slower → IsLive slower → IsLive net
