-- The three ways in which a firing fails to be legal, in their order.
use Rattle.std.specs.Prelude.{ℕ, ◌<◌, ◌≡◌, List, length, Option, Some}
use Rattle.teg_net.specs.declared.entries.PlaceId.{PlaceId}
use Rattle.teg_net.specs.Nets.{NetLists, IsInput}
use Rattle.teg_net.specs.Circuits.{place_at}
use Rattle.teg_net.specs.Inputs.{input_date}
use Rattle.run_laws.specs.declared.fired.Fired.{Fired}
use Rattle.run_laws.specs.Runs.{next_number, token_date, IsThereBy, HasTokensBy, last_date, IsNotBefore}

-- the lowest numbered place into the transition whose token is not there by the firing's date, and when the token is there
pub record IsFirstLateToken (net : NetLists) (run : List Fired) (f : Fired) (id : PlaceId) (there : Option ℕ) : Type 0 where
  pub in_range : id.index < length net.places
  pub into : (place_at net id).to.index ≡ f.transition.index
  pub date : there ≡ token_date run (place_at net id) (next_number run f.transition.index)
  pub late : IsThereBy f.date there → ⊥
  pub lowest : (other : PlaceId) → other.index < id.index → (place_at net other).to.index ≡ f.transition.index
      → IsThereBy f.date (token_date run (place_at net other) (next_number run f.transition.index))

-- the tokens are there, but the date is before that of the last firing
pub record IsBackInTime (net : NetLists) (run : List Fired) (f : Fired) (date : ℕ) : Type 0 where
  pub tokens : HasTokensBy net run f.transition.index (next_number run f.transition.index) f.date
  pub last : last_date run ≡ Some date
  pub before : f.date < date

-- the tokens are there and the date is not before the last, but the input has a later date for this firing, or none
pub record IsBeforeRelease (net : NetLists) (run : List Fired) (f : Fired) (date : Option ℕ) : Type 0 where
  pub tokens : HasTokensBy net run f.transition.index (next_number run f.transition.index) f.date
  pub in_order : IsNotBefore (last_date run) f.date
  pub input : IsInput net f.transition.index
  pub release : date ≡ input_date net f.transition.index (next_number run f.transition.index)
  pub before : IsThereBy f.date date → ⊥
