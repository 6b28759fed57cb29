-- The latest dates are a feasible dating, the greatest that keeps the due dates; and inputs meet where no float is negative.
use Rattle.std.proofs.Common.{ℕ, ◌<◌, ◌≤◌, length, ⊎_elim}
use Rattle.std.specs.Prelude.{pos}
use Rattle.std.proofs.lemmas.Bool.{cases_lt}
use Rattle.std.proofs.lemmas.Option.{slice_get_past}
use Rattle.teg_model.specs.dioid.declared.dates.Date.TheVariants.{At}
use Rattle.teg_model.proofs.dioid_proofs.DateOrder.{at_most_trans}
use Rattle.teg_model.specs.teg_net.Nets.{NetLists, IsInput}
use Rattle.teg_model.proofs.DateFunctions.{Dating}
use Rattle.latest_laws.specs.Floats.{LatestDatesAreFeasible, LatestDatesAreGreatest, InputsMeetByFloats}
use Rattle.due_laws.proofs.LatestDates.{kept_below, latest_keeps_dues}
use Rattle.due_laws.proofs.LatestInputs.{latest_is_feasible}

-- an input is a transition of the net
pub input_in : (net : NetLists) (t : ℕ) → IsInput net t → t < length net.transitions
input_in net t i =
    ⊎_elim
    (λ (l : t < length net.transitions). l)
    (λ (l : length net.transitions ≤ t). absurd (rw (slice_get_past net.transitions t l) at i))
    (cases_lt t (length net.transitions))

pub latest_are_greatest : LatestDatesAreGreatest
latest_are_greatest net ok due u x y f keeps l t k in' o = kept_below net due u x ok f keeps t k (y t k) in' o (l t k in' o)

pub latest_are_feasible : LatestDatesAreFeasible
latest_are_feasible net ok due v y meets l =
    let x : Dating = meets.0 in
    let f = meets.1.feasible in (
      record {
        places = (latest_is_feasible net due v x y ok f meets.2 l).places;
        inputs = λ t k o i. at_most_trans (v t k) (x t k) (y t k) (f.inputs t k o i) (latest_are_greatest net ok due v x y f meets.2 l t k (input_in net t i) o);
      },
      latest_keeps_dues net due y l,
    )

pub meet_by_floats : InputsMeetByFloats
meet_by_floats net ok due v x y least l = (
  λ meets t k in' o.
      at_most_trans (x t k) (meets.0 t k) (y t k) (least.least (meets.0) meets.1.feasible t k in' o)
      (latest_are_greatest net ok due v (meets.0) y meets.1.feasible meets.2 l t k in' o),
  λ below. (x, least, λ t k d in' o h. at_most_trans (x t k) (y t k) (At (pos d)) (below t k in' o) (latest_keeps_dues net due y l t k d in' o h)),
)
