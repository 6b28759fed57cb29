-- One pass over the places of a net: what it reads, and when the row of its number can be made.
use Rattle.std.specs.Prelude.{ℕ, ◌≤◌, ◌≡◌, List}
use Rattle.dioid.specs.declared.dates.Date.TheVariants.{Early}
use Rattle.teg_net.specs.Nets.{NetLists, IsNet}
use Rattle.teg_net.specs.Limits.{greatest_firing_number}
use Rattle.teg_model.specs.Systems.{System}
use Rattle.teg_model.specs.Datings.{implicit_place}
use Rattle.date_rows.specs.declared.order.OrderedPlace.{OrderedPlace}
use Rattle.date_rows.specs.PlaceOrder.{OrdersPlaces}
use Rattle.date_rows.specs.KeptRows.{StaysWithin}
use Rattle.date_rows.specs.Passes.{KeptRows, ReachesBack, AreLeastRowsBack}

-- the net, its places in the order of their turns, the source, what is kept of the rows before, and the number
pub record PassOver (P S : Type 0) : Type 0 where
  pub net : NetLists
  pub order : List OrderedPlace
  pub source : S
  pub past : P
  pub number : ℕ

-- the pass over these places for the row of number k
abbrev pub pass_over : {P S : Type 0} → NetLists → List OrderedPlace → S → P → ℕ → PassOver P S
pass_over net order source past k = record { net = net; order = order; source = source; past = past; number = k }

-- the row of number k of the system's least dating can be made: the places come in the order of their turns, the cells can hold each date
-- up to this number, and the rows before are enough and have the dates of the least dating
pub record CanMakeRow (net : NetLists) (turns : List OrderedPlace) (s : System) (most : ℕ) (can_be_early : Type 0) (rows : KeptRows) (k : ℕ) : Type 0 where
  pub rules : IsNet net
  pub order : OrdersPlaces net turns
  pub early : (t : ℕ) → s.initial (implicit_place t) 1 ≡ Early → can_be_early
  pub bounded : StaysWithin most k s
  pub one : 1 ≤ k
  pub few : k ≤ greatest_firing_number
  pub reach : ReachesBack net k rows
  pub past : AreLeastRowsBack net s k rows
