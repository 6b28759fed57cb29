-- Working definitions of the departures that rounds over the places make later: dates in parts of the unit, of which `scale` make one.
use Rattle.std.specs.Prelude.{ℕ, ◌+◌, ◌*◌, ◌<◌, ◌≤◌, ◌≡◌, ◌≢◌, ◌⊎◌, List, length, slice_index, max}
use Rattle.teg_net.specs.declared.entries.PlaceId.{PlaceId}
use Rattle.teg_net.specs.Nets.{NetLists}
use Rattle.teg_net.specs.Circuits.{place_at, from_of, IsPathBetween, time_of, tokens_of}
use Rattle.teg_net.specs.Parts.{to_of}
use Rattle.timetable_calls.specs.FractionPeriods.{AreFirstsAt}

-- no date is later than this
abbrev pub AreUpTo : ℕ → List ℕ → Type 0
AreUpTo most dates = (t : ℕ) → t < length dates → slice_index dates t ≤ most

-- the departure here is at least the date, and others stay
pub record IsMoved (before : List ℕ) (at date : ℕ) (after : List ℕ) : Type 0 where
  pub count : length after ≡ length before
  pub here : slice_index after at ≡ max (slice_index before at) date
  pub others : (t : ℕ) → t ≢ at → slice_index after t ≡ slice_index before t

-- the least date from which departures, one in each period, wait for the first so many of these ready dates
pub record IsFirstReady (scale period : ℕ) (ready : List ℕ) (k first : ℕ) : Type 0 where
  pub late : (j : ℕ) → j < k → scale * slice_index ready j ≤ first + period * j
  pub least : (d : ℕ) → ((j : ℕ) → j < length ready → scale * slice_index ready j ≤ d + period * j) → first ≤ d

-- the least departures that wait for the ready dates of the first so many places, none past the date `most`
pub record AreStarts (net : NetLists) (scale period most places : ℕ) (firsts : List ℕ) : Type 0 where
  pub count : length firsts ≡ length net.transitions
  pub ready :
      (p : PlaceId) → p.index < places → p.index < length net.places → (k : ℕ) → k < length (place_at net p).ready
      → scale * slice_index (place_at net p).ready k ≤ slice_index firsts (to_of net p) + period * k
  pub least : (g : ℕ → ℕ) → AreFirstsAt net scale period g → (t : ℕ) → t < length net.transitions → slice_index firsts t ≤ g t
  pub small : AreUpTo (scale * most) firsts

-- by the departures before, the place makes its end so late
pub record IsBy (net : NetLists) (scale period : ℕ) (before : List ℕ) (t date : ℕ) : Type 0 where
  pub place : PlaceId
  pub in_range : place.index < length net.places
  pub to : to_of net place ≡ t
  pub is : date + period * (place_at net place).tokens ≤ slice_index before (from_of net place) + scale * (place_at net place).hold

-- each departure is as before, or by one of the places, and late enough after the first so many
pub record IsRoundUpTo (net : NetLists) (scale period : ℕ) (before : List ℕ) (places : ℕ) (after : List ℕ) : Type 0 where
  pub count : length after ≡ length before
  pub kept : (t : ℕ) → slice_index before t ≤ slice_index after t
  pub late :
      (p : PlaceId) → p.index < places → p.index < length net.places
      → slice_index before (from_of net p) + scale * (place_at net p).hold ≤ slice_index after (to_of net p) + period * (place_at net p).tokens
  pub by : (t : ℕ) → (slice_index after t ≡ slice_index before t) ⊎ IsBy net scale period before t (slice_index after t)

-- the date is that of a path from a first departure, or earlier
pub record IsBacked (net : NetLists) (scale period : ℕ) (begun : List ℕ) (t date : ℕ) : Type 0 where
  pub from : ℕ
  pub places : List PlaceId
  pub path : IsPathBetween net from places t
  pub is : date + period * tokens_of net places ≤ slice_index begun from + scale * time_of net places

-- departures after so many rounds: late enough for each path of so many places, and each is that of some path; none starts past the
-- date `most`, or moves by more than `hold` in a round
pub record AreRounded (net : NetLists) (scale period most hold rounds : ℕ) (firsts : List ℕ) : Type 0 where
  pub begun : List ℕ
  pub starts : AreStarts net scale period most (length net.places) begun
  pub count : length firsts ≡ length net.transitions
  pub small : AreUpTo (scale * (most + rounds * hold)) firsts
  pub lower :
      (ps : List PlaceId) (s t : ℕ) → t < length net.transitions → IsPathBetween net s ps t → length ps ≤ rounds
      → slice_index begun s + scale * time_of net ps ≤ slice_index firsts t + period * tokens_of net ps
  pub backed : (t : ℕ) → t < length net.transitions → IsBacked net scale period begun t (slice_index firsts t)
