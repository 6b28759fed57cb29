-- Working definitions of the part of a net that the walks from an input reach.
use Rattle.std.specs.Prelude.{ℕ, Bool, ◌<◌, ◌≤◌, ◌≡◌, List, [], length, map, All, IsTrue, slice_index, slice_index_or}
use Rattle.std.specs.List.{filter}
use Rattle.teg_net.specs.declared.entries.Place.{Place}
use Rattle.teg_net.specs.declared.entries.Transition.{Transition}
use Rattle.teg_net.specs.Nets.{NetLists}
use Rattle.settled_forms.specs.Spread.{is_marked}
use Rattle.walk_times.specs.declared.reached.Part.{Part}

-- whether the place begins at a marked transition
abbrev pub begins_marked : List Bool → Place → Bool
begins_marked marks p = is_marked marks p.from.index

-- each place that begins at a marked transition leads to one
abbrev pub ReachLeadsOn : NetLists → List Bool → Type 0
ReachLeadsOn net marks = All (λ p. IsTrue (begins_marked marks p) → IsTrue (is_marked marks p.to.index)) net.places

-- the input is marked, and each place that begins at a marked transition leads to one
pub record IsReachClosed (net : NetLists) (input : ℕ) (marks : List Bool) : Type 0 where
  pub begins : IsTrue (is_marked marks input)
  pub leads_on : ReachLeadsOn net marks

-- `old` has the marked ones of so many transitions in order, and `new` of each of them its place in `old`
pub record IsNumbering (marks : List Bool) (count : ℕ) (old new : List ℕ) : Type 0 where
  pub long : length new ≡ count
  pub few : length old ≤ count
  pub within : (u : ℕ) → u < length old → slice_index old u < count
  pub marked : (u : ℕ) → u < length old → IsTrue (is_marked marks (slice_index old u))
  pub back : (u : ℕ) → u < length old → slice_index new (slice_index old u) ≡ u
  pub found : (t : ℕ) → t < count → IsTrue (is_marked marks t) → slice_index new t < length old
  pub forth : (t : ℕ) → t < count → IsTrue (is_marked marks t) → slice_index old (slice_index new t) ≡ t
  pub rises : (u v : ℕ) → u < v → v < length old → slice_index old u < slice_index old v

-- the transitions of these numbers, in order
pub record AreThose (transitions : List Transition) (old : List ℕ) (those : List Transition) : Type 0 where
  pub count : length those ≡ length old
  pub each : (u : ℕ) (d : Transition) → u < length old → slice_index_or those u d ≡ slice_index_or transitions (slice_index old u) d

-- the place between the new numbers of its transitions, without ready dates
abbrev pub renumbered : List ℕ → Place → Place
renumbered new p = record { name = p.name; from = record { index = slice_index new p.from.index }; to = record { index = slice_index new p.to.index }; hold = p.hold; tokens = p.tokens; ready = [] }

-- the places that begin at marked transitions
abbrev pub places_from : List Bool → List ℕ → List Place → List Place
places_from marks new places = map (renumbered new) (filter (begins_marked marks) places)

-- the transitions of the net at marks that are closed, and the places between them
pub record IsPartFrom (net : NetLists) (input : ℕ) (part : Part) : Type 0 where
  pub old : List ℕ
  pub numbers : IsNumbering part.marks.items (length net.transitions) old part.new.items
  pub wide : length part.marks.items ≡ length net.transitions
  pub closed : IsReachClosed net input part.marks.items
  pub transitions : AreThose net.transitions old part.net.transitions
  pub places : part.net.places ≡ places_from part.marks.items part.new.items net.places
