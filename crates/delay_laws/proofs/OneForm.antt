-- The settled form and the delays left do not hang on which delayed dating is taken.
use Rattle.std.proofs.Common.{ℕ, ◌+◌, ◌-◌, ◌<◌, ◌≤◌, length, sym, subst, ◌∙◌, arith, ⊎_elim}
use Rattle.std.specs.Prelude.{pos}
use Rattle.std.proofs.lemmas.Bool.{cases_lt}
use Rattle.std.proofs.lemmas.Int.{ints}
use Rattle.periodic_laws.specs.dioid.declared.dates.Date.TheVariants.{At}
use Rattle.periodic_laws.specs.dioid.Dates.{IsAtMostDate}
use Rattle.periodic_laws.specs.dioid.DateOrder.{Le}
use Rattle.periodic_laws.proofs.dioid_proofs.AtMost.{le_is, le_trans}
use Rattle.teg_net.specs.declared.entries.Place.{Place}
use Rattle.teg_net.specs.Nets.{NetLists}
use Rattle.teg_net.specs.Circuits.{no_place}
use Rattle.periodic_laws.specs.teg_model.Systems.{available_in}
use Rattle.periodic_laws.specs.teg_model.LiveRanks.{HasEndsInRange}
use Rattle.periodic_laws.specs.teg_model.Datings.{implicit_place, initial_date}
use Rattle.periodic_laws.proofs.teg_model_proofs.OfNet.{implicit_is}
use Rattle.periodic_laws.proofs.teg_model_proofs.Tokens.{implicit_gives}
use Rattle.periodic_laws.proofs.teg_model_proofs.DateFunctions.{Dating}
use Rattle.settled_laws.specs.SettledForms.{NeverFalls}
use Rattle.settled_laws.specs.OneSettledForm.{ShortestFormsAreOne}
use Rattle.delay_laws.specs.declared.table.Timetable.{Timetable}
use Rattle.delay_laws.specs.PlannedTimetables.{planned}
use Rattle.delay_laws.specs.Delays.{IsDelayedBy, together}
use Rattle.delay_laws.specs.OneDelayForm.{FormsAreOfEach, FormsOfDelaysAreOne, DelaysLeftAreOne}
use Rattle.delay_laws.proofs.Releases.{release_rises}
use Rattle.delay_laws.proofs.Dated.{delayed_datings_are_one, one_above, left_above}
use Rattle.delay_laws.proofs.Steps.{together_first, together_second}
use Rattle.settled_laws.proofs.Alike.{AreAlike, shortest_alike}

-- two delayed datings of a timetable are alike, with their releases
datings_alike : (net : NetLists) (period : ℕ) (t : Timetable) (x w y v : Dating) → HasEndsInRange net → IsDelayedBy net period t x w → IsDelayedBy net period t y v
    → AreAlike (length net.transitions + length net.transitions) (together (length net.transitions) x w) (together (length net.transitions) y v)
datings_alike net period t x w y v ends a b =
    let n : ℕ = length net.transitions in
    let one = delayed_datings_are_one net ends period t x w y v a b in
    record {
      same = λ i k l o.
          ⊎_elim
          (λ (m : i < n). together_first n x w i k m ∙ one.0 i k m o ∙ sym (together_first n y v i k m))
          (λ (m : n ≤ i). together_second n x w i k m ∙ one.1 (i - n) k (omega arith) o ∙ sym (together_second n y v i k m))
          (cases_lt i n);
    }

pub forms_are_of_each : FormsAreOfEach
forms_are_of_each net ends period t f h x w d =
    let n : ℕ = length net.transitions in
    shortest_alike (n + n) f (together n h.0 h.1) (together n x w) (datings_alike net period t h.0 h.1 x w ends h.2 d) h.3

-- they never fall
never_fall : (net : NetLists) (period : ℕ) (t : Timetable) (x w : Dating) → IsDelayedBy net period t x w
    → NeverFalls (length net.transitions + length net.transitions) (together (length net.transitions) x w)
never_fall net period t x w h i k l o =
    let n : ℕ = length net.transitions in
    (⊎_elim
    (λ (m : i < n).
    let own = implicit_is net i m in
    let kept : Le (available_in initial_date x (implicit_place i) (k + 1)) (x i (k + 1)) =
    record { holds = subst (λ (c : Place). IsAtMostDate (available_in initial_date x c (k + 1)) (x c.to.index (k + 1))) own.2 (h.least.feasible.places (k + 1) (omega arith) own.0 no_place own.1) } in
    le_trans (le_is (together_first n x w i k m ∙ sym (implicit_gives initial_date x i k o))) (le_trans kept (le_is (sym (together_first n x w i (k + 1) m)))))
    (λ (m : n ≤ i).
    let one = h.release (i - n) k (omega arith) o in
    let two = h.release (i - n) (k + 1) (omega arith) (omega arith) in
    let up = release_rises period t (i - n) k one.0 two.0 one.2 two.2 in
    let low : Le (At (pos one.0)) (At (pos two.0)) = record { holds = omega (arith, ints) } in
    le_trans (le_is (together_second n x w i k m ∙ one.1)) (le_trans low (le_is (sym (together_second n x w i (k + 1) m ∙ two.1)))))
    (cases_lt i n)).holds

pub forms_of_delays_are_one : ShortestFormsAreOne → FormsOfDelaysAreOne
forms_of_delays_are_one one net ends period t f g a b =
    let n : ℕ = length net.transitions in
    one (n + n) (together n b.0 b.1) (never_fall net period t b.0 b.1 b.2) f g (forms_are_of_each net ends period t f a b.0 b.1 b.2) b.3

pub delays_left_are_one : DelaysLeftAreOne
delays_left_are_one net ends period t a b h g i k l o =
    one_above (planned period t i k) (a i k) (b i k) (sym (h.3 i k l o) ∙ left_above net period t h.0 h.1 b ends h.2 g i k l o)
