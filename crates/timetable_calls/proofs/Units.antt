-- Where one part makes the unit, dates in parts are dates.
use Rattle.std.proofs.Common.{ℕ, List, arith}
use Rattle.std.specs.Prelude.{slice_index}
use Rattle.teg_net.specs.declared.entries.Place.{Place}
use Rattle.teg_net.specs.Nets.{NetLists}
use Rattle.workable_laws.specs.WorkablePeriods.{LeavesCircuitsTime, LeavesPlaceTime}
use Rattle.teg_net.specs.declared.entries.PlaceId.{PlaceId}
use Rattle.timetable_calls.specs.declared.refusal.PeriodRefused.{PeriodRefused}
use Rattle.timetable_calls.specs.declared.refusal.PeriodRefused.TheVariants.{TooShort, OutOfMemory}
use Rattle.timetable_calls.specs.Earliest.{AreEarliest, AreLeastFirsts, IsPeriodRefused, IsTooShort}
use Rattle.timetable_calls.specs.FractionPeriods.{AreEarliestAt, AreLeastFirstsAt, IsRefusedAt, IsTooShortAt, LeavesCircuitsTimeAt, LeavesTimeAt}

to_units : (period : ℕ) (f : ℕ → ℕ) (p : Place) → LeavesTimeAt 1 period f p → LeavesPlaceTime period f p
to_units period f p h = record { leaves_time = (let own = h.leaves_time in omega (arith, own)); ready = λ k some few. (let own = h.ready k some few in omega (arith, own)) }

from_units : (period : ℕ) (f : ℕ → ℕ) (p : Place) → LeavesPlaceTime period f p → LeavesTimeAt 1 period f p
from_units period f p h = record { leaves_time = (let own = h.leaves_time in omega (arith, own)); ready = λ k some few. (let own = h.ready k some few in omega (arith, own)) }

pub least_by_units : (net : NetLists) (period : ℕ) (f : ℕ → ℕ) → AreLeastFirstsAt net 1 period f → AreLeastFirsts net period f
least_by_units net period f h = record {
  workable = λ i d l. to_units period f _ (h.workable i d l);
  least = λ g w t l. h.least g (λ i d m. from_units period g _ (w i d m)) t l;
}

pub by_units : (net : NetLists) (period : ℕ) (firsts : List ℕ) → AreEarliestAt net 1 period firsts → AreEarliest net period firsts
by_units net period firsts h = record { one_each = h.one_each; least = least_by_units net period (slice_index firsts) h.least }

pub in_units : (net : NetLists) (period : ℕ) → LeavesCircuitsTime net period → LeavesCircuitsTimeAt net 1 period
in_units net period h ps c = let own = h ps c in omega (arith, own)

too_short_in_units : (net : NetLists) (period : ℕ) (ps : List PlaceId) → IsTooShortAt net 1 period ps → IsTooShort net period ps
too_short_in_units net period ps h = record {
  circuit = h.circuit;
  lowest = h.lowest;
  longer = (let own = h.longer in omega (arith, own));
  none = λ f w. h.none f (λ i d l. from_units period f _ (w i d l));
}

pub refused_in_units : (net : NetLists) (period : ℕ) (e : PeriodRefused) → IsRefusedAt net 1 period e → IsPeriodRefused net period e
refused_in_units net period (TooShort circuit) h = too_short_in_units net period circuit.places.items h
refused_in_units net period OutOfMemory h = tt
