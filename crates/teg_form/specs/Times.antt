-- Working definitions of the matrix of places without tokens, and of its star.
use Rattle.std.specs.Prelude.{ℕ, pos, ◌<◌, ◌≤◌, ◌+◌, ◌*◌, ◌≡◌, List, length, get_or, ⊤}
use Rattle.dioid.specs.declared.dates.Date.{Date}
use Rattle.dioid.specs.declared.dates.Date.TheVariants.{Early, At, Never}
use Rattle.dioid.specs.Dates.{IsAtMostDate}
use Rattle.dioid_matrix.specs.Tables.{Table}
use Rattle.teg_net.specs.declared.entries.PlaceId.{PlaceId}
use Rattle.teg_net.specs.Nets.{NetLists}
use Rattle.teg_net.specs.Circuits.{place_at}
use Rattle.teg_net.specs.Limits.{greatest_circuit_time}
use Rattle.teg_form.specs.declared.entries.Entry.{Entry}
use Rattle.teg_form.specs.StandardForms.{IsTimeOfFreePath}

-- the date in this row and column of a list of rows
abbrev pub cell : List Date → ℕ → ℕ → ℕ → Date
cell dates count row column = get_or dates (row * count + column) Early

-- a place without tokens leads from a to b with this hold
pub record IsFreePlace (net : NetLists) (a b : ℕ) (id : PlaceId) : Type 0 where
  pub in_range : id.index < length net.places
  pub begins : (place_at net id).from.index ≡ a
  pub ends : (place_at net id).to.index ≡ b
  pub no_tokens : (place_at net id).tokens ≡ 0

-- a date is none, or the hold of a place without tokens from a to b
abbrev pub IsHoldBetween : NetLists → ℕ → ℕ → Date → Type 0
IsHoldBetween net a b Early = ⊤
IsHoldBetween net a b (At x) = (id : PlaceId) × IsFreePlace net a b id × (x ≡ pos (place_at net id).hold)
IsHoldBetween net a b Never = ⊥

-- for each two transitions the greatest hold of a place without tokens from the one to the other
pub record AreFreeHolds (net : NetLists) (holds : List Date) : Type 0 where
  pub count : length holds ≡ length net.transitions * length net.transitions
  pub sound : (a b : ℕ) → a < length net.transitions → b < length net.transitions → IsHoldBetween net a b (cell holds (length net.transitions) a b)
  pub complete : (id : PlaceId) → id.index < length net.places → (place_at net id).tokens ≡ 0
      → IsAtMostDate (At (pos (place_at net id).hold)) (cell holds (length net.transitions) (place_at net id).from.index (place_at net id).to.index)

-- a date is none, or the time of a path without tokens from a to b that keeps a limit
abbrev pub IsTimeBetween : NetLists → ℕ → ℕ → Date → Type 0
IsTimeBetween net a b Early = ⊤
IsTimeBetween net a b (At x) = (time : ℕ) × IsTimeOfFreePath net a b time × (x ≡ pos time) × (time ≤ greatest_circuit_time)
IsTimeBetween net a b Never = ⊥

-- for each two transitions the greatest time of a path without tokens from the one to the other, the empty one too
pub record AreFreeTimes (net : NetLists) (times : Table Date) : Type 0 where
  pub rows : times.rows ≡ length net.transitions
  pub columns : times.columns ≡ length net.transitions
  pub sound : (a b : ℕ) → a < length net.transitions → b < length net.transitions → IsTimeBetween net a b (cell times.entries times.columns a b)
  pub complete : (a b time : ℕ) → a < length net.transitions → IsTimeOfFreePath net a b time
      → IsAtMostDate (At (pos time)) (cell times.entries times.columns a b)

-- some path that begins with this place, and goes on to b by places without tokens, takes this time
pub record IsTimeFrom (net : NetLists) (id : PlaceId) (b time : ℕ) : Type 0 where
  pub others : ℕ
  pub path : IsTimeOfFreePath net (place_at net id).to.index b others
  pub is : time ≡ (place_at net id).hold + others

-- the entry tells where the place begins and its tokens
pub record IsFirstPlaceOf (net : NetLists) (id : PlaceId) (e : Entry) : Type 0 where
  pub from : e.from.index ≡ (place_at net id).from.index
  pub tokens : e.tokens ≡ (place_at net id).tokens
