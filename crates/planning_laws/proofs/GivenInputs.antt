-- Inputs of which the first are given.
use Rattle.std.proofs.Common.{ℕ, ◌+◌, ◌<◌, ◌≤◌, ◌≡◌, true, false, refl, arith, ⊎_elim}
use Rattle.std.specs.Prelude.{pos, Option, nat_le}
use Rattle.std.proofs.lemmas.Bool.{cases_lt}
use Rattle.std.proofs.lemmas.Bool.Decides.{nat_tests}
use Rattle.teg_model.specs.dioid.declared.dates.Date.TheVariants.{At}
use Rattle.teg_model.specs.dioid.Dates.{IsAtMostDate}
use Rattle.teg_model.proofs.dioid_proofs.DateOrder.{at_most_is, at_most_trans}
use Rattle.teg_model.specs.teg_net.Nets.{NetLists, HasEndsInRange, IsInput}
use Rattle.teg_model.specs.teg_net.Circuits.{IsLive}
use Rattle.teg_model.proofs.DateFunctions.{Dating}
use Rattle.due_laws.specs.MeetingDueDates.{AreInputs, AreLatestInputs, InputsMeet, inputs_at_zero}
use Rattle.due_laws.specs.LatestDates.{AreLatestDates}
use Rattle.planning_laws.specs.GivenInputs.{AreGiven, AreInTime, MeetsFrom, GivenInputsMeetInTime, LatestGoOnFromGiven, given_then}
use Rattle.due_laws.proofs.LatestInputs.{latest_dates_are_inputs}
use Rattle.due_changes.proofs.JointInputs.{meet_up_to_latest}

module _ (n : ℕ → ℕ) (given y : Dating) where
  as_given : (t k : ℕ) → k ≤ n t → given_then n given y t k ≡ given t k
  as_given t k l = let e : nat_le k (n t) ≡ true = grind (arith, nat_tests, l) in rw e refl

  as_latest : (t k : ℕ) → n t < k → given_then n given y t k ≡ y t k
  as_latest t k l = let e : nat_le k (n t) ≡ false = grind (arith, nat_tests, l) in rw e refl

module _ (net : NetLists) (n : ℕ → ℕ) (given y : Dating) (is : AreGiven net n given) (latest : AreInputs net y) (in_time : AreInTime net n given y) where
  then_from_zero : (t k : ℕ) → IsInput net t → 1 ≤ k → IsAtMostDate (At (pos 0)) (given_then n given y t k)
  then_from_zero t k i o = ⊎_elim
      (λ (l : n t < k). rw (as_latest n given y t k l) (latest.from_zero t k i o))
      (λ (l : k ≤ n t). rw (as_given n given y t k l) (is.from_zero t k i o l))
      (cases_lt (n t) k)

  then_never_fall : (t k : ℕ) → IsInput net t → 1 ≤ k → IsAtMostDate (given_then n given y t k) (given_then n given y t (k + 1))
  then_never_fall t k i o = ⊎_elim
      (λ (l : n t < k). rw (as_latest n given y t k l, as_latest n given y t (k + 1) (omega (arith, l))) (latest.never_fall t k i o))
      (λ (l : k ≤ n t). ⊎_elim
      (λ (m : n t < k + 1). rw (as_given n given y t k l, as_latest n given y t (k + 1) m) (at_most_trans (given t k) (y t k) (y t (k + 1)) (in_time t k i o l) (latest.never_fall t k i o)))
      (λ (m : k + 1 ≤ n t). rw (as_given n given y t k l, as_given n given y t (k + 1) m) (is.never_fall t k i o m))
      (cases_lt (n t) (k + 1)))
      (cases_lt (n t) k)

  are_inputs : AreInputs net (given_then n given y)
  are_inputs = record { from_zero = then_from_zero; never_fall = then_never_fall }

  within : (t k : ℕ) → 1 ≤ k → IsInput net t → IsAtMostDate (given_then n given y t k) (y t k)
  within t k o i = ⊎_elim
      (λ (l : n t < k). at_most_is (given_then n given y t k) (y t k) (as_latest n given y t k l))
      (λ (l : k ≤ n t). rw (as_given n given y t k l) (in_time t k i o l))
      (cases_lt (n t) k)

module _ (net : NetLists) (ends : HasEndsInRange net) (live : IsLive net) (due : ℕ → ℕ → Option ℕ) (zero : InputsMeet net due inputs_at_zero)
    (y : Dating) (l : AreLatestDates net due y) (n : ℕ → ℕ) (given : Dating) (is : AreGiven net n given) where
  of_latest : AreLatestInputs net due y
  of_latest = latest_dates_are_inputs net ends live due zero y l

  goes_on : AreInTime net n given y → MeetsFrom net due n given (given_then n given y)
  goes_on in_time = record {
    inputs = are_inputs net n given y is of_latest.inputs in_time;
    begins = λ t k i o m. as_given n given y t k m;
    meet = (meet_up_to_latest net ends live due zero (given_then n given y) y l).1 (within net n given y is of_latest.inputs in_time);
  }

  -- what begins as given and meets the due dates is at most the latest dates
  below : (w : Dating) → MeetsFrom net due n given w → (t k : ℕ) → 1 ≤ k → IsInput net t → IsAtMostDate (w t k) (y t k)
  below w m = (meet_up_to_latest net ends live due zero w y l).0 m.meet

  at_most_then : (w : Dating) → MeetsFrom net due n given w → (t k : ℕ) → IsInput net t → 1 ≤ k → IsAtMostDate (w t k) (given_then n given y t k)
  at_most_then w m t k i o = ⊎_elim
      (λ (q : n t < k). rw (as_latest n given y t k q) (below w m t k o i))
      (λ (q : k ≤ n t). rw (as_given n given y t k q) (at_most_is (w t k) (given t k) (m.begins t k i o q)))
      (cases_lt (n t) k)

pub meet_in_time : GivenInputsMeetInTime
meet_in_time net ends live due zero y l n given is = (
  λ some t k i o q.
      let own = below net ends live due zero y l n given is some.0 some.1 t k o i in
      rw (some.1.begins t k i o q) at own,
  λ in_time. (given_then n given y, goes_on net ends live due zero y l n given is in_time),
)

pub latest_go_on : LatestGoOnFromGiven
latest_go_on net ends live due zero y l n given is in_time = record {
  meets = goes_on net ends live due zero y l n given is in_time;
  latest = at_most_then net ends live due zero y l n given is;
}
