-- The net that a run leaves: its places with the tokens that are left in them, each ready as the run made it, and none before now (chapter 2).
use Rattle.std.specs.Prelude.{ℕ, pos, ◌+◌, ◌<◌, ◌≤◌, ◌≡◌, List, Option, Some, None, Any, ◌⊎◌, length, map, max}
use Rattle.std.specs.List.{range_with_len}
use Rattle.teg_model.specs.dioid.declared.dates.Date.{Date}
use Rattle.teg_model.specs.dioid.declared.dates.Date.TheVariants.{Early, At}
use Rattle.teg_model.specs.dioid.Dates.{later_of}
use Rattle.teg_net.specs.declared.entries.Place.{Place}
use Rattle.teg_net.specs.Nets.{NetLists, IsInput}
use Rattle.teg_model.specs.Systems.{System}
use Rattle.teg_model.specs.Datings.{as_date, at_input, initial_date, listed_releases, system_with}
use Rattle.run_laws.specs.declared.fired.Fired.{Fired}
use Rattle.run_laws.specs.Runs.{dates_of_transition, firing_date, token_date}
use Rattle.run_laws.specs.Earliest.{tokens_in}
use Rattle.state_laws.specs.Rests.{IsLeastAfter, with_happened}

-- how often transition t fired in the run
abbrev pub count_in : List Fired → ℕ → ℕ
count_in run t = length (dates_of_transition run t)

-- the date of firing k of transition t in the run
abbrev pub date_in : List Fired → ℕ → ℕ → Date
date_in run t k = as_date (firing_date run t k)

-- the later of now and a date, if there is one
abbrev pub not_before : ℕ → Option ℕ → ℕ
not_before now None = now
not_before now (Some date) = max now date

-- the date from which token k that is left in the place is ready: from that of its firing and its hold on, or from its own ready date on, and not
-- before now
abbrev pub ready_left : List Fired → ℕ → Place → ℕ → ℕ
ready_left run now p k = not_before now (token_date run p (count_in run p.to.index + k))

-- the place with the tokens that are left in it, and the ready date of each
abbrev pub place_after : List Fired → ℕ → Place → Place
place_after run now p = record {
  name = p.name;
  from = p.from;
  to = p.to;
  hold = p.hold;
  tokens = tokens_in run p;
  ready = map (ready_left run now p) (range_with_len 1 (tokens_in run p));
}

-- the releases of inputs from their next firings on, none before now
abbrev pub AreReleasesLeft : NetLists → List Fired → ℕ → (ℕ → ℕ → Date) → (ℕ → ℕ → Date) → Type 0
AreReleasesLeft net run now u v = (t k : ℕ) → 1 ≤ k → IsInput net t → v t k ≡ later_of (At (pos now)) (u t (count_in run t + k))

-- the net that the run leaves: its transitions, its places as they are left, and each input's dates of the firings to come, none before now
pub record IsNetAfter (net : NetLists) (run : List Fired) (now : ℕ) (rest : NetLists) : Type 0 where
  pub transitions : rest.transitions ≡ net.transitions
  pub places : rest.places ≡ map (place_after run now) net.places
  pub inputs : AreReleasesLeft net run now (listed_releases net) (listed_releases rest)

-- the system of the net in which nothing is released before now, nor an input before u says
abbrev pub system_under : NetLists → ℕ → (ℕ → ℕ → Date) → System
system_under net now u = system_with net initial_date (λ t k. later_of (At (pos now)) (at_input net t (u t k) Early))

-- where the input lists say it
abbrev pub system_from : NetLists → ℕ → System
system_from net now = system_under net now (listed_releases net)

-- the system of the net after the run: no firing that happened is released before it did, and no other one before now, nor an input before its list
-- says
abbrev pub system_after : NetLists → List Fired → ℕ → System
system_after net run now = with_happened (system_from net now) (count_in run) (date_in run)

-- the least dating of the net from now on: the firings of the run have their dates, and each other one the least from now on
abbrev pub IsLeastFromNow : NetLists → List Fired → ℕ → (ℕ → ℕ → Date) → Type 0
IsLeastFromNow net run now x = IsLeastAfter (system_from net now) (count_in run) (date_in run) x

-- each transition is an input, or a place ends there
abbrev pub IsFed : NetLists → Type 0
IsFed net = (t : ℕ) → t < length net.transitions → IsInput net t ⊎ Any (λ p. p.to.index ≡ t) net.places
