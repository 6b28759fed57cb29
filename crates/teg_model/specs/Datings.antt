-- Datings of a net, those that are feasible, and the least of them (chapter 2).
use Rattle.std.specs.Prelude.{ℕ, pos, ◌<◌, ◌≤◌, ◌++◌, [], List, Option, Some, None, map, length, All, slice_get}
use Rattle.std.specs.List.{range_with_len}
use Rattle.dioid.specs.declared.dates.Date.{Date}
use Rattle.dioid.specs.declared.dates.Date.TheVariants.{Early, At, Never}
use Rattle.dioid.specs.Dates.{IsAtMostDate}
use Rattle.teg_net.specs.declared.entries.Role.{Role}
use Rattle.teg_net.specs.declared.entries.Role.TheVariants.{Internal, Input, Output}
use Rattle.teg_net.specs.declared.entries.Transition.{Transition}
use Rattle.teg_net.specs.declared.entries.Place.{Place}
use Rattle.teg_net.specs.Nets.{NetLists, IsInput}
use Rattle.teg_model.specs.Systems.{System, available_in}
use Rattle.teg_net.specs.Inputs.{input_date}
use Rattle.teg_net.specs.ReadyDates.{ready_date}

-- the implicit place of a transition leads to the transition itself, with no hold and one token
abbrev pub implicit_place : ℕ → Place
implicit_place t = record { name = []; from = record { index = t }; to = record { index = t }; hold = 0; tokens = 1; ready = [] }

-- the places of the net, and the implicit place of each transition
abbrev pub extended_places : NetLists → List Place
extended_places net = net.places ++ map implicit_place (range_with_len 0 (length net.transitions))

-- an initial token is available from its ready date on, which is 0 where the place has none
abbrev pub initial_date : Place → ℕ → Date
initial_date p k = At (pos (ready_date p k))

-- the date from which the token is available that the place has for firing k of its downstream transition
abbrev pub available_at : (ℕ → ℕ → Date) → Place → ℕ → Date
available_at x p k = available_in initial_date x p k

-- the date of an input's firing, which `None` says never comes
abbrev pub as_date : Option ℕ → Date
as_date None = Never
as_date (Some d) = At (pos d)

-- the releases by the input lists of the net
abbrev pub listed_releases : NetLists → ℕ → ℕ → Date
listed_releases net t k = as_date (input_date net t k)

-- no firing comes before the tokens that it takes are available, that of its implicit place among them, nor an input before its release:
-- so no date is before 0, and none before that of the firing before
pub record IsFeasibleUnder (net : NetLists) (u : ℕ → ℕ → Date) (x : ℕ → ℕ → Date) : Type 0 where
  pub places : (k : ℕ) → 1 ≤ k → All (λ p. IsAtMostDate (available_at x p k) (x p.to.index k)) (extended_places net)
  pub inputs : (t k : ℕ) → 1 ≤ k → IsInput net t → IsAtMostDate (u t k) (x t k)

-- feasible, and at most every feasible dating at each transition and number
pub record IsLeastUnder (net : NetLists) (u : ℕ → ℕ → Date) (x : ℕ → ℕ → Date) : Type 0 where
  pub feasible : IsFeasibleUnder net u x
  pub least : (y : ℕ → ℕ → Date) → IsFeasibleUnder net u y → (t k : ℕ) → t < length net.transitions → 1 ≤ k → IsAtMostDate (x t k) (y t k)

-- the least dating of the net
abbrev pub IsLeastDating : NetLists → (ℕ → ℕ → Date) → Type 0
IsLeastDating net x = IsLeastUnder net (listed_releases net) x

-- the first date for an input, the second for every other role
abbrev pub by_role : Role → Date → Date → Date
by_role Internal a b = b
by_role Input a b = a
by_role Output a b = b

-- the first date where there is an input, and else the second
abbrev pub by_transition : Option Transition → Date → Date → Date
by_transition None a b = b
by_transition (Some t) a b = by_role t.role a b

-- the first date where transition t is an input of the net, and else the second
abbrev pub at_input : NetLists → ℕ → Date → Date → Date
at_input net t a b = by_transition (slice_get net.transitions t) a b

-- the system of the net with these dates of initial tokens and these releases
abbrev pub system_with : NetLists → (Place → ℕ → Date) → (ℕ → ℕ → Date) → System
system_with net initial release = record { places = extended_places net; initial = initial; release = release }

-- the system of the net, in which only inputs wait for a release
abbrev pub system_of : NetLists → (ℕ → ℕ → Date) → System
system_of net u = system_with net initial_date (λ t k. at_input net t (u t k) Early)
