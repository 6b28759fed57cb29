-- A net with other input lists has the datings of the net under their releases.
use Rattle.std.proofs.Common.{ℕ, List, Option}
use Rattle.teg_net.specs.declared.entries.InputList.{InputList}
use Rattle.dioid.specs.declared.dates.Date.{Date}
use Rattle.teg_net.specs.Nets.{NetLists}
use Rattle.teg_model.specs.Datings.{IsFeasibleUnder}
use Rattle.due_laws.specs.MeetingDueDates.{InputsMeet}
use Rattle.forever_check.specs.ShownReleases.{with_lists}

module _ (net : NetLists) (lists : List InputList) (u : ℕ → ℕ → Date) where
  feasible_in : (x : ℕ → ℕ → Date) → IsFeasibleUnder (with_lists net lists) u x → IsFeasibleUnder net u x
  feasible_in x f = record { places = f.places; inputs = f.inputs }

  feasible_with : (x : ℕ → ℕ → Date) → IsFeasibleUnder net u x → IsFeasibleUnder (with_lists net lists) u x
  feasible_with x f = record { places = f.places; inputs = f.inputs }

  pub meet_in : (due : ℕ → ℕ → Option ℕ) → InputsMeet (with_lists net lists) due u → InputsMeet net due u
  meet_in due m = (
    m.0,
    record { feasible = feasible_in m.0 m.1.feasible; least = λ y f t k l one. m.1.least y (feasible_with y f) t k l one },
    m.2,
  )
