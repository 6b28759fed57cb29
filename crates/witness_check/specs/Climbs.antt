-- Numbers of transitions that rise along places: along all places, or along those without tokens; and how they are searched for.
use Rattle.std.specs.Prelude.{ℕ, ◌+◌, ◌<◌, ◌≤◌, ◌≡◌, ◌⊎◌, Bool, true, false, List, Option, Some, None, All, length, set, slice_index, sum_by}
use Rattle.teg_net.specs.declared.entries.Place.{Place}
use Rattle.teg_net.specs.declared.entries.PlaceId.{PlaceId}
use Rattle.teg_net.specs.Circuits.{IsCircuit, IsPathBetween, from_of, place_at}
use Rattle.teg_net.specs.Nets.{NetLists}
use Rattle.teg_net.specs.Parts.{to_of}

-- the place counts: each one does, or each without tokens
abbrev pub Counts : Bool → Place → Type 0
Counts each p = (each ≡ true) ⊎ (p.tokens ≡ 0)

-- one number for each transition, which rises along each place that counts
pub record RiseAlong (net : NetLists) (each : Bool) (numbers : List ℕ) : Type 0 where
  pub count : length numbers ≡ length net.transitions
  pub rises : (p : PlaceId) → p.index < length net.places → Counts each (place_at net p) → slice_index numbers (from_of net p) < slice_index numbers (to_of net p)

-- a circuit of places that count
abbrev pub HasCountedCircuit : NetLists → Bool → Type 0
HasCountedCircuit net each = (ps : List PlaceId) × IsCircuit net ps × All (λ p. Counts each (place_at net p)) ps

-- a path of so many places that count ends at the transition
pub record IsClimb (net : NetLists) (each : Bool) (t number : ℕ) : Type 0 where
  pub start : ℕ
  pub places : List PlaceId
  pub path : IsPathBetween net start places t
  pub counted : All (λ p. Counts each (place_at net p)) places
  pub long : length places ≡ number

-- one number for each transition, less than there are transitions, and that of such a path
pub record AreClimbs (net : NetLists) (each : Bool) (numbers : List ℕ) : Type 0 where
  pub count : length numbers ≡ length net.transitions
  pub low : (t : ℕ) → t < length net.transitions → slice_index numbers t < length net.transitions
  pub climbs : (t : ℕ) → t < length net.transitions → IsClimb net each t (slice_index numbers t)

-- the end of the place has the number of its start and one more
pub record IsEndLifted (each : Bool) (p : Place) (old new : List ℕ) : Type 0 where
  pub counts : Counts each p
  pub low : slice_index old p.from.index + 1 < length old
  pub flat : slice_index old p.to.index ≤ slice_index old p.from.index
  pub lifted : new ≡ set old p.to.index (slice_index old p.from.index + 1)

-- the numbers stay, and rise along the place if it counts
pub record IsEndKept (each : Bool) (p : Place) (old new : List ℕ) : Type 0 where
  pub same : new ≡ old
  pub rises : Counts each p → slice_index old p.from.index < slice_index old p.to.index

-- the place counts, and a path by it has as many places as there are numbers
pub record IsLastEnd (each : Bool) (p : Place) (old : List ℕ) : Type 0 where
  pub counts : Counts each p
  pub high : length old ≤ slice_index old p.from.index + 1

-- whether the end is lifted, and none where it can not be
abbrev pub LiftsEnd : Bool → Place → List ℕ → List ℕ → Option Bool → Type 0
LiftsEnd each p old new None = IsLastEnd each p old
LiftsEnd each p old new (Some true) = IsEndLifted each p old new
LiftsEnd each p old new (Some false) = IsEndKept each p old new

-- a round over all places: paths that are longer together, or, where it lifts none, numbers that rise
pub record IsRoundOfClimbs (net : NetLists) (each : Bool) (old : List ℕ) (lifted : Bool) (new : List ℕ) : Type 0 where
  pub are : AreClimbs net each new
  pub more : lifted ≡ true → sum_by (λ z. z) old < sum_by (λ z. z) new
  pub settled : lifted ≡ false → RiseAlong net each new

-- whether the round lifts some number, and none where a circuit of places that count is met
abbrev pub ClimbsOn : NetLists → Bool → List ℕ → List ℕ → Option Bool → Type 0
ClimbsOn net each old new None = HasCountedCircuit net each
ClimbsOn net each old new (Some lifted) = IsRoundOfClimbs net each old lifted new
