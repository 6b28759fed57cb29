-- Working definitions of the places of a net along both ways.
use Rattle.std.specs.Prelude.{◌≡◌}
use Rattle.teg_net.specs.Nets.{NetLists}
use Rattle.teg_net.specs.declared.places_of.PlaceEnd.TheVariants.{From, To}
use Rattle.teg_parts.specs.declared.components.BothWays.{BothWays}
use Rattle.teg_parts.specs.PlacesAlong.{ArePlacesAlong}

-- the places along which one may go from each transition, and those against which one may
pub record AreBothWays (net : NetLists) (w : BothWays) : Type 0 where
  pub onward : ArePlacesAlong net w.onward
  pub onward_near : w.onward.near ≡ From
  pub back : ArePlacesAlong net w.back
  pub back_near : w.back.near ≡ To
