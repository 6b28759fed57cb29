-- Working definitions of the places that are told a loss, with the transitions at which they start and end.
use Rattle.std.specs.Prelude.{ℕ, ◌<◌, ◌≤◌, ◌≡◌, List, length, All, Contains, IsSome, Option}
use Rattle.teg_net.specs.declared.entries.PlaceId.{PlaceId}
use Rattle.teg_net.specs.Nets.{NetLists}
use Rattle.teg_net.specs.Circuits.{from_of}
use Rattle.teg_net.specs.Parts.{to_of}
use Rattle.teg_critical.specs.declared.endings.Ending.{Ending}
use Rattle.teg_critical.specs.declared.losses.Loss.{Loss}
use Rattle.teg_critical.specs.Losses.{loss_at}

-- the place with its ends
abbrev pub ending_at : NetLists → PlaceId → Ending
ending_at net p = record { start = from_of net p; end = to_of net p; place = p }

-- a place of the net with its ends
pub record IsEnding (net : NetLists) (e : Ending) : Type 0 where
  pub in_range : e.place.index < length net.places
  pub is : e ≡ ending_at net e.place

-- which ends at this transition
pub record IsEndingAt (net : NetLists) (end : ℕ) (e : Ending) : Type 0 where
  pub ending : IsEnding net e
  pub there : e.end ≡ end

-- places of the net with their ends, and among them each that is told a loss
pub record AreEndings (net : NetLists) (losses : List (Option Loss)) (order : List Ending) : Type 0 where
  pub few : length order ≤ length net.places
  pub known : All (IsEnding net) order
  pub all : (p : PlaceId) → p.index < length net.places → IsSome (loss_at losses p) → Contains order (ending_at net p)
