-- Inputs that meet due dates together, and before others that do.
use Rattle.std.proofs.Common.{◌+◌}
use Rattle.std.specs.Prelude.{pos}
use Rattle.teg_model.specs.dioid.declared.dates.Date.TheVariants.{At}
use Rattle.teg_model.specs.dioid.Dates.{later_of}
use Rattle.teg_model.proofs.dioid_proofs.DateOrder.{at_most_trans, later_left, later_right, later_least}
use Rattle.teg_model.specs.Datings.{IsLeastUnder, system_of}
use Rattle.teg_model.proofs.LeastOver.{least_over}
use Rattle.teg_model.proofs.LiveRanks.{live_is_ranked}
use Rattle.teg_model.proofs.OfNet.{least_of, least_of_system}
use Rattle.dating_laws.proofs.OrderOfDatings.{least_join, later_dates}
use Rattle.teg_model.proofs.DateFunctions.{Dating}
use Rattle.due_changes.specs.JointInputs.{LaterInputsAreInputs, LaterInputsMeet, EarlierInputsMeet, InputsMeetUpToLatest}
use Rattle.due_laws.proofs.LatestDates.{kept_below}
use Rattle.due_laws.proofs.LatestInputs.{latest_dates_are_inputs}
use Rattle.latest_laws.proofs.Floats.{input_in}

pub later_inputs : LaterInputsAreInputs
later_inputs net v w a b = record {
  from_zero = λ t k i o. at_most_trans (At (pos 0)) (v t k) (later_of (v t k) (w t k)) (a.from_zero t k i o) (later_left (v t k) (w t k));
  never_fall = λ t k i o. later_least (v t k) (w t k) (later_of (v t (k + 1)) (w t (k + 1)))
      (at_most_trans (v t k) (v t (k + 1)) (later_of (v t (k + 1)) (w t (k + 1))) (a.never_fall t k i o) (later_left (v t (k + 1)) (w t (k + 1))))
      (at_most_trans (w t k) (w t (k + 1)) (later_of (v t (k + 1)) (w t (k + 1))) (b.never_fall t k i o) (later_right (v t (k + 1)) (w t (k + 1))));
}

pub later_meet : LaterInputsMeet
later_meet net due v w a b =
    let x : Dating = a.0 in
    let y : Dating = b.0 in (
      λ t k. later_of (x t k) (y t k),
      least_join net v w x y a.1 b.1,
      λ t k d in' o h. later_least (x t k) (y t k) (At (pos d)) (a.2 t k d in' o h) (b.2 t k d in' o h),
    )

pub earlier_meet : EarlierInputsMeet
earlier_meet net ok live due v w h meets =
    let ranked = live_is_ranked net ok live in
    let least : Dating = least_over (system_of net v) ranked.0 ranked.1 in
    let is_least : IsLeastUnder net v least = least_of_system net v least (least_of net v ranked.0 ranked.1 ranked.2) in (
      least,
      is_least,
      λ t k d in' o e. at_most_trans (least t k) (meets.0 t k) (At (pos d)) (later_dates net v w least (meets.0) h is_least meets.1 t k in' o) (meets.2 t k d in' o e),
    )

pub meet_up_to_latest : InputsMeetUpToLatest
meet_up_to_latest net ok live due zero v y l = (
  λ meets t k o i.
      at_most_trans (v t k) (meets.0 t k) (y t k) (meets.1.feasible.inputs t k o i)
      (kept_below net due v (meets.0) ok meets.1.feasible meets.2 t k (y t k) (input_in net t i) o (l t k (input_in net t i) o)),
  λ below. earlier_meet net ok live due v y below (latest_dates_are_inputs net ok live due zero y l).meet,
)
