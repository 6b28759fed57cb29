-- Working definitions of what firings wait for beside the tokens of earlier firings: the net's own initial tokens and
-- input lists, or one input alone. The ghost members of `Releases` are `initial_by` and `release_by`, and the contract
-- of `own_releases` rests on `AreWaits` and `wait_of`; no other of them stands below the contract of a public call, but
-- those that these name.
use Rattle.std.specs.Prelude.{ℕ, ◌<◌, ◌≡◌, ◌==◌, if◌then◌else◌, List, Option, Some, None, length, slice_get, slice_index_or}
use Rattle.dioid.specs.declared.dates.Date.{Date}
use Rattle.dioid.specs.declared.dates.Date.TheVariants.{Early}
use Rattle.teg_net.specs.declared.entries.Role.{Role}
use Rattle.teg_net.specs.declared.entries.Role.TheVariants.{Internal, Input, Output}
use Rattle.teg_net.specs.declared.entries.Transition.{Transition}
use Rattle.teg_net.specs.declared.entries.Place.{Place}
use Rattle.teg_net.specs.Nets.{NetLists, IsInput}
use Rattle.periodic_laws.specs.teg_model.Systems.{System}
use Rattle.periodic_laws.specs.teg_model.Datings.{initial_date, system_with}
use Rattle.list_spans.specs.ListDates.{date_of_list, list_number}
use Rattle.teg_settle.specs.declared.releases.Tokens.{Tokens}
use Rattle.teg_settle.specs.declared.releases.Tokens.TheVariants.{Ready, Absent}
use Rattle.teg_settle.specs.declared.releases.Wait.{Wait}
use Rattle.teg_settle.specs.declared.releases.Wait.TheVariants.{Nothing, Dates}
use Rattle.teg_settle.specs.declared.releases.Releases.{Releases}

-- the dates of initial tokens: their ready dates, or none
abbrev pub initial_by : Tokens → Place → ℕ → Date
initial_by Ready p k = initial_date p k
initial_by Absent p k = Early

-- the date before which firing k of a transition that so waits is not released
abbrev pub release_as : NetLists → Wait → ℕ → Date
release_as net Nothing k = Early
release_as net (Dates list) k = date_of_list net list k

-- for what transition t waits
abbrev pub wait_in : List Wait → ℕ → Wait
wait_in waits t = slice_index_or waits t Nothing

-- the date before which firing k of transition t is not released
abbrev pub release_by : List Wait → NetLists → ℕ → ℕ → Date
release_by waits net t k = release_as net (wait_in waits t) k

-- the system of the net with these initial tokens and releases
abbrev pub system_for : Releases → NetLists → System
system_for r net = system_with net (initial_by r.tokens) (release_by r.waits.items net)

-- the list has what f gives for each transition of the net
pub record AreWaits (net : NetLists) (f : ℕ → Wait) (waits : List Wait) : Type 0 where
  pub count : length waits ≡ length net.transitions
  pub each : (t : ℕ) → t < length net.transitions → wait_in waits t ≡ f t

-- an input waits for the dates of a list, every other transition for nothing
abbrev pub wait_by_role : Role → ℕ → Wait
wait_by_role Internal list = Nothing
wait_by_role Input list = Dates list
wait_by_role Output list = Nothing

-- what a transition waits for by its role; one that is missing waits for nothing
abbrev pub wait_by : Option Transition → ℕ → Wait
wait_by None list = Nothing
wait_by (Some t) list = wait_by_role t.role list

-- each input waits for its list
abbrev pub wait_of : NetLists → ℕ → Wait
wait_of net t = wait_by (slice_get net.transitions t) (list_number net t)

-- one input waits for date 0, and nothing else for anything
abbrev pub wait_from : NetLists → ℕ → ℕ → Wait
wait_from net input t = if input == t then Dates (length net.inputs) else Nothing

-- only inputs wait
pub record OnlyInputsWait (net : NetLists) (waits : List Wait) : Type 0 where
  pub count : length waits ≡ length net.transitions
  pub inputs : (t list : ℕ) → wait_in waits t ≡ Dates list → IsInput net t
