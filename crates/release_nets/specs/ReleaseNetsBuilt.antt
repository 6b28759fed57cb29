-- Working definitions of how the net with the releases as its inputs is built, list by list.
use Rattle.std.specs.Prelude.{ℕ, ◌+◌, ◌-◌, ◌<◌, ◌≤◌, ◌≡◌, IsTrue, List, length, All, slice_index, slice_index_or}
use Rattle.std.specs.List.Sorted.{IsNonDecreasing}
use Rattle.std.specs.Fmt.{decimal}
use Rattle.delay_laws.specs.declared.table.Timetable.{Timetable}
use Rattle.delay_laws.specs.Delays.{IsReleaseAt}
use Rattle.delay_laws.specs.ReleaseNets.{IsReleaseList, release_place}
use Rattle.teg_net.specs.declared.entries.InputList.{InputList}
use Rattle.teg_net.specs.declared.entries.Place.{Place}
use Rattle.teg_net.specs.declared.entries.Role.TheVariants.{Internal, Input}
use Rattle.teg_net.specs.declared.entries.Transition.{Transition}
use Rattle.teg_net.specs.Circuits.{place_at}
use Rattle.teg_net.specs.Limits.{greatest_input_date}
use Rattle.teg_net.specs.Names.{is_name}
use Rattle.teg_net.specs.Nets.{NetLists}
use Rattle.release_nets.specs.DelaysByNumber.{most_releases}
use Rattle.release_nets.specs.PlannedNets.{IsPlannedNet}

-- a list of so many entries, of which the one at k is of its kind
pub record AreBuilt {X : Type 0} (Is : ℕ → X → Type 0) (count : ℕ) (xs : List X) : Type 0 where
  pub long : length xs ≡ count
  pub each : (k : ℕ) (d : X) → k < count → Is k (slice_index_or xs k d)

-- a name that is a number
pub record IsNumberName (k : ℕ) (name : List ℕ) : Type 0 where
  pub is : name ≡ decimal k
  pub rule : IsTrue (is_name name)

-- transition k of a net with releases as inputs: one of the net's, which are n, or the input of one
pub record IsDerivedTransition (n k : ℕ) (t : Transition) : Type 0 where
  pub name : IsNumberName k t.name
  pub own : k < n → t.role ≡ Internal
  pub input : n ≤ k → t.role ≡ Input

-- place k of a net with releases as inputs: one of the net's, or that from an input to its transition
pub record IsDerivedPlace (net : NetLists) (k : ℕ) (p : Place) : Type 0 where
  pub name : IsNumberName k p.name
  pub own : k < length net.places → p ≡ record (place_at net (record { index = k })) { name = p.name }
  pub added : length net.places ≤ k → p ≡ record (release_place (length net.transitions) (k - length net.places)) { name = p.name }

-- releases of transition i: number k + 1 stands at k, they never fall and keep the limit of dates
pub record ArePlannedReleases (period : ℕ) (t : Timetable) (i count : ℕ) (dates : List ℕ) : Type 0 where
  pub long : length dates ≡ count
  pub each : (k : ℕ) → k < count → IsReleaseAt period t i (k + 1) (slice_index dates k)
  pub small : All (λ d. d ≤ greatest_input_date) dates

-- the input list of transition i: its releases up to a number past its delays
pub record IsDerivedList (period : ℕ) (t : Timetable) (n i : ℕ) (l : InputList) : Type 0 where
  pub is : IsReleaseList period t n i l
  pub few : length l.dates ≤ most_releases
  pub small : All (λ d. d ≤ greatest_input_date) l.dates
  pub rises : IsNonDecreasing l.dates

-- the lists of the net with the releases as inputs
pub record IsNetMade (net : NetLists) (period : ℕ) (t : Timetable) (d : NetLists) : Type 0 where
  pub transitions : AreBuilt (IsDerivedTransition (length net.transitions)) (length net.transitions + length net.transitions) d.transitions
  pub places : AreBuilt (IsDerivedPlace net) (length net.places + length net.transitions) d.places
  pub lists : AreBuilt (IsDerivedList period t (length net.transitions)) (length net.transitions) d.inputs
  pub planned : IsPlannedNet net period t
