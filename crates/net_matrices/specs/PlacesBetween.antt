-- Working definitions of the entry for two transitions, as it is made from the places between them.
use Rattle.std.specs.Prelude.{ℕ, pos, ◌<◌, ◌≤◌, ◌+◌, ◌-◌, ◌≡◌, List, All, Any, length, slice_index_or}
use Rattle.series_ops.specs.dioid.declared.dates.Date.{Date}
use Rattle.series_ops.specs.dioid.declared.dates.Date.TheVariants.{At}
use Rattle.series_ops.specs.dioid.DateOrder.{Le}
use Rattle.series_ops.specs.series_laws.SeriesForms.{value_at, form_with}
use Rattle.series_ops.specs.declared.gains.Gain.{Gain}
use Rattle.series_ops.specs.Gains.{IsCanonicalGain}
use Rattle.teg_net.specs.declared.entries.PlaceId.{PlaceId}
use Rattle.teg_net.specs.declared.entries.Place.{Place}
use Rattle.teg_net.specs.Nets.{NetLists}
use Rattle.teg_net.specs.Circuits.{place_at}
use Rattle.teg_net.specs.Limits.{most_place_tokens}
use Rattle.teg_settle.specs.periodic_laws.Equations.{entry_at}

-- a place of the net that leads from one transition to another
pub record IsBetween (net : NetLists) (to from : ℕ) (p : PlaceId) : Type 0 where
  pub in_range : p.index < length net.places
  pub enters : (place_at net p).to.index ≡ to
  pub leaves : (place_at net p).from.index ≡ from

-- those of the first n places that lead from one transition to another, and no others
pub record AreBetween (net : NetLists) (to from n : ℕ) (ids : List PlaceId) : Type 0 where
  pub each : All (IsBetween net to from) ids
  pub all : (q : ℕ) → q < n → IsBetween net to from (record { index = q }) → Any (λ p. p.index ≡ q) ids

-- the place of this number in the list
abbrev pub listed : NetLists → List PlaceId → ℕ → Place
listed net ids r = place_at net (slice_index_or ids r (record { index = 0 }))

-- the latest that the first n places of the list ask for at shift k
pub record IsLatestOf (net : NetLists) (ids : List PlaceId) (k n : ℕ) (d : Date) : Type 0 where
  pub asked : (r : ℕ) → r < n → (listed net ids r).tokens ≤ k → Le (At (pos (listed net ids r).hold)) d
  pub least : (c : Date) → ((r : ℕ) → r < n → (listed net ids r).tokens ≤ k → Le (At (pos (listed net ids r).hold)) c) → Le d c

-- none of the first n places of the list has more tokens
pub record AreTokensUpTo (net : NetLists) (ids : List PlaceId) (n most : ℕ) : Type 0 where
  pub each : (r : ℕ) → r < n → (listed net ids r).tokens ≤ most
  pub few : most ≤ most_place_tokens

-- a list of values that, with a period of 1 and no step, has those of the entry
pub record AreValuesOf (net : NetLists) (to from : ℕ) (values : List Date) : Type 0 where
  pub some : 1 ≤ length values
  pub few : length values ≤ most_place_tokens + 1
  pub are : (k : ℕ) → value_at (form_with values 1 (pos 0)) k ≡ entry_at net.places to from k
  pub last : (k : ℕ) → length values ≤ k + 1 → entry_at net.places to from k ≡ entry_at net.places to from (length values - 1)

-- the entry
pub record IsEntryOf (net : NetLists) (to from : ℕ) (g : Gain) : Type 0 where
  pub is : IsCanonicalGain g
  pub values : (k : ℕ) → value_at g.series k ≡ entry_at net.places to from k
