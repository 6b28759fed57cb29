-- Legal runs reach the least dates of a live net, and no earlier ones.
use Rattle.std.proofs.Common.{ℕ, pos, ◌-◌, ◌<◌, ◌≤◌, ◌≡◌, List, Some, length, get_or, ap, ◌∙◌, arith, ⊎_elim}
use Rattle.std.proofs.lemmas.Bool.{cases_lt}
use Rattle.std.proofs.lemmas.Int.{ints}
use Rattle.teg_model.specs.dioid.declared.dates.Date.TheVariants.{At, Never}
use Rattle.teg_model.specs.dioid.Dates.{IsAtMostDate}
use Rattle.teg_net.specs.Nets.{NetLists, HasEndsInRange}
use Rattle.teg_net.specs.Circuits.{IsLive}
use Rattle.teg_model.specs.Datings.{IsLeastDating}
use Rattle.teg_model.proofs.DateFunctions.{Dating}
use Rattle.run_laws.specs.declared.fired.Fired.{Fired}
use Rattle.run_laws.specs.Runs.{dates_of_transition, firing_date, IsLegalRun}
use Rattle.game_laws.specs.DatesByTheGame.{LeastDatesAreEarliest, NeverIsInNoRun}
use Rattle.run_laws.proofs.Dates.{get_there, get_last}
use Rattle.game_laws.proofs.Gathering.{all_dated, earliest_exist}
use Rattle.game_laws.proofs.Numbering.{earliest_whole}
use Rattle.run_laws.proofs.InOrder.{earliest_legal}
use Rattle.run_laws.proofs.Least.{not_early}

reached_at : (net : NetLists) (x : Dating) → HasEndsInRange net → IsLive net → IsLeastDating net x → (t k date : ℕ) → t < length net.transitions → 1 ≤ k → x t k ≡ At (pos date)
    → (run : List Fired) × IsLegalRun net run × (firing_date run t k ≡ Some date)
reached_at net x ends live least t k date l o e =
    let made = earliest_exist net x k ends live least in
    let whole = earliest_whole net x k made.0 least made.1 in
    (made.0, earliest_legal net x k made.0 ends least made.1, whole.all t k date l o (omega arith) e)

not_before_first : (net : NetLists) (x : Dating) → HasEndsInRange net → IsLive net → IsLeastDating net x → (t k date : ℕ) → t < length net.transitions → 1 ≤ k → x t k ≡ At (pos date)
    → (run : List Fired) (other : ℕ) → IsLegalRun net run → firing_date run t k ≡ Some other → date ≤ other
not_before_first net x ends live least t k date l o e run other legal q =
    let low : IsAtMostDate (At (pos date)) (At (pos other)) = rw e at (not_early net x run ends live least legal t k other l o q) in
    omega (arith, ints, low)

never_in_none : (net : NetLists) (x : Dating) → HasEndsInRange net → IsLive net → IsLeastDating net x → (t k date : ℕ) → t < length net.transitions → 1 ≤ k → x t k ≡ Never
    → (run : List Fired) → IsLegalRun net run → firing_date run t k ≡ Some date → ⊥
never_in_none net x ends live least t k date l o e run legal q = rw e at (not_early net x run ends live least legal t k date l o q)

pub dates_earliest : LeastDatesAreEarliest
dates_earliest net x ends live least t k date l o = (
  λ e. record { reached = reached_at net x ends live least t k date l o e; first = not_before_first net x ends live least t k date l o e },
  λ h.
      ⊎_elim
      (λ (n : x t k ≡ Never). absurd (never_in_none net x ends live least t k date l o n h.reached.0 h.reached.1 h.reached.2))
      (λ (n : (z : ℕ) × (x t k ≡ At (pos z))).
      let low = not_before_first net x ends live least t k n.0 l o n.1 h.reached.0 date h.reached.1 h.reached.2 in
      let own = reached_at net x ends live least t k n.0 l o n.1 in
      let high = h.first own.0 n.0 own.1 own.2 in
      let one : n.0 ≡ date = omega (arith, low, high) in
      n.1 ∙ ap (λ d. At (pos d)) one)
      (all_dated net x least.feasible t k l o),
)

pub never_none : NeverIsInNoRun
never_none net x ends live least t k l o = (
  λ e run legal.
      ⊎_elim
      (λ (q : k - 1 < length (dates_of_transition run t)).
      absurd (never_in_none net x ends live least t k (get_or (dates_of_transition run t) (k - 1) 0) l o e run legal (get_last (dates_of_transition run t) (k - 1) q)))
      (λ (q : length (dates_of_transition run t) ≤ k - 1). omega (arith, q, o))
      (cases_lt (k - 1) (length (dates_of_transition run t))),
  λ h.
      ⊎_elim
      (λ (n : x t k ≡ Never). n)
      (λ (n : (z : ℕ) × (x t k ≡ At (pos z))).
      let own = reached_at net x ends live least t k n.0 l o n.1 in
      let there = (get_there (dates_of_transition own.0 t) (k - 1) n.0 own.2).0 in
      absurd (omega (arith, there, h own.0 own.1)))
      (all_dated net x least.feasible t k l o),
)
