-- Working definitions of the times of walks from an input by the forms of the ends of its places.
use Rattle.std.specs.Prelude.{ℕ, ℤ, zero, suc, pos, ◌+◌, ◌<◌, ◌≤◌, ◌≡◌, ◌==◌, ◌≤ℤ◌, ◌⊎◌, List, Option, All, if◌then◌else◌, length, map, slice_index_or}
use Rattle.std.specs.List.{range_with_len}
use Rattle.dioid.specs.declared.dates.Date.{Date}
use Rattle.dioid.specs.declared.dates.Date.TheVariants.{Early, At, Never}
use Rattle.dioid.specs.Dates.{later_of, move}
use Rattle.teg_net.specs.declared.entries.Place.{Place}
use Rattle.teg_net.specs.declared.entries.PlaceId.{PlaceId}
use Rattle.teg_net.specs.declared.entries.TransitionId.{TransitionId}
use Rattle.teg_net.specs.declared.places_of.PlaceEnd.TheVariants.{From}
use Rattle.teg_net.specs.Circuits.{place_at}
use Rattle.teg_net.specs.Nets.{NetLists, IsNet, IsInput}
use Rattle.teg_net.specs.PlaceLists.{ListsPlacesAt}
use Rattle.teg_due.specs.RowNames.{is_input}
use Rattle.teg_settle.specs.settled_laws.SettledForms.{SettledForm, step_of_form}
use Rattle.end_laws.specs.Ends.{date_by}
use Rattle.walks_by_ends.specs.EndForms.{EndForms, AreEndsOf, IsKeptEnd, end_form, times_from_end}

-- a net, an input, the places that leave it, and forms of their ends
pub record InputWays : Type 0 where
  pub net : NetLists
  pub input : TransitionId
  pub places : List PlaceId
  pub ends : EndForms

-- with these parts
abbrev pub input_ways : NetLists → TransitionId → List PlaceId → EndForms → InputWays
input_ways net input places ends = record { net = net; input = input; places = places; ends = ends }

-- the end of each place that leaves the input has a form that is kept
pub record AreWays (w : InputWays) : Type 0 where
  pub rules : IsNet w.net
  pub input : IsInput w.net w.input.index
  pub leave : ListsPlacesAt w.net From w.input.index w.places
  pub ends : AreEndsOf w.net w.ends
  pub kept : All (λ p. IsKeptEnd w.ends (place_at w.net p).to.index) w.places

-- the place that stands at index i
abbrev pub way_at : InputWays → ℕ → Place
way_at w i = place_at w.net (slice_index_or w.places i (record { index = 0 }))

-- the date by it
abbrev pub way_date : InputWays → ℕ → ℕ → ℕ → Date
way_date w i t k = date_by (times_from_end w.ends) (way_at w i) t k

-- the latest by so many of them
abbrev pub latest_to : InputWays → ℕ → ℕ → ℕ → Date
latest_to w t k zero = Early
latest_to w t k (suc i) = later_of (latest_to w t k i) (way_date w i t k)

-- the time to firing k of t: at the input itself 0, at another one none, and else the latest by all places
abbrev pub walk_date : InputWays → ℕ → ℕ → Date
walk_date w t k = if is_input w.net t
    then (if t == w.input.index then At (pos 0) else Early)
    else latest_to w t k (length w.places)

-- the step is 0 at an input, and else that of no end exceeds it
pub record IsMostStep (w : InputWays) (t : ℕ) (step : ℤ) : Type 0 where
  pub still : IsInput w.net t → step ≡ pos 0
  pub most : (IsInput w.net t → ⊥) → (i : ℕ) → i < length w.places → step_of_form (end_form w.ends (way_at w i).to.index) t ≤ℤ step

-- these are such steps of all transitions
pub record AreMostSteps (w : InputWays) (steps : List ℤ) : Type 0 where
  pub wide : length steps ≡ length w.net.transitions
  pub each : (t : ℕ) → t < length w.net.transitions → IsMostStep w t (slice_index_or steps t (pos 0))

-- from number k all go on by these steps
abbrev pub GoOnAt : InputWays → List ℤ → ℕ → Type 0
GoOnAt w steps k = (t : ℕ) → t < length w.net.transitions → walk_date w t (k + 1) ≡ move (slice_index_or steps t (pos 0)) (walk_date w t k)

-- the step is 0 of each transition that has no number there
abbrev pub AreStillAt : InputWays → List ℤ → ℕ → Type 0
AreStillAt w steps k = (t : ℕ) → t < length w.net.transitions → (walk_date w t k ≡ Early) ⊎ (walk_date w t k ≡ Never) → slice_index_or steps t (pos 0) ≡ pos 0

-- the form of each end has begun at this number, and some numbers before as many as the place has tokens
abbrev pub HaveBegun : InputWays → ℕ → Type 0
HaveBegun w from = (i : ℕ) → i < length w.places → (end_form w.ends (way_at w i).to.index).after + (way_at w i).tokens ≤ from

-- the form that goes on by these steps past a number
abbrev pub latest_row : InputWays → ℕ → ℕ → List Date
latest_row w after t = map (λ k. walk_date w t (k + 1)) (range_with_len 0 (after + 1))

abbrev pub latest_form : InputWays → ℕ → List ℤ → SettledForm
latest_form w after steps = record { after = after; period = 1; rows = map (latest_row w after) (range_with_len 0 (length w.net.transitions)); steps = steps }

-- past `from` all go on so once, where the forms of the ends have begun, and the form is not too long
pub record IsEvenFrom (w : InputWays) (steps : List ℤ) (begin limit from : ℕ) : Type 0 where
  pub begun : begin ≤ from
  pub short : from + 1 ≤ limit
  pub once : GoOnAt w steps (from + 1)

-- past `after` up to `from` all go on so, and from `after` they do not
pub record IsLeastEven (w : InputWays) (steps : List ℤ) (from after : ℕ) : Type 0 where
  pub before : after ≤ from
  pub again : (k : ℕ) → after < k → k ≤ from → GoOnAt w steps k
  pub first : 1 ≤ after → GoOnAt w steps after → ⊥

-- the least number past which all go on so, where the form is not too long
pub record IsEvenPast (w : InputWays) (steps : List ℤ) (limit after : ℕ) : Type 0 where
  pub from : ℕ
  pub begun : HaveBegun w from
  pub once : GoOnAt w steps (from + 1)
  pub least : IsLeastEven w steps from after
  pub short : after + 1 ≤ limit
  pub still : AreStillAt w steps (after + 1)
