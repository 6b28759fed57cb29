-- Inputs at 0 meet the due dates, or some row is late.
use Rattle.std.proofs.Common.{ℕ, zero, suc, ◌+◌, ◌<◌, ◌≤◌, ◌≡◌, List, length, get_or, refl, sym, ap, subst, ◌∙◌, arith, ⊎_elim, ◌⊎◌, inl, inr}
use Rattle.std.specs.Prelude.{All}
use Rattle.std.proofs.lemmas.Bool.{cases_lt}
use Rattle.std.proofs.lemmas.Int.{ints}
use Rattle.std.proofs.lemmas.List.{get_or_default}
use Rattle.teg_net.specs.Nets.{NetLists, HasEndsInRange}
use Rattle.teg_net.specs.Circuits.{IsLive}
use Rattle.teg_net.specs.ReadyDates.{start_date}
use Rattle.teg_net.specs.Walks.{walk_time}
use Rattle.date_rows.specs.teg_model.Datings.{IsLeastUnder, system_of}
use Rattle.due_laws.specs.MeetingDueDates.{inputs_at_zero}
use Rattle.date_rows.proofs.teg_model_proofs.LeastOver.{least_over}
use Rattle.date_rows.proofs.teg_model_proofs.LiveRanks.{live_is_ranked}
use Rattle.date_rows.proofs.teg_model_proofs.OfNet.{least_of, least_of_system}
use Rattle.teg_due.specs.declared.rows.DueRow.{DueRow}
use Rattle.teg_due.specs.RowRules.{IsDueOf}
use Rattle.teg_jit.specs.PlansAndLateness.{IsLate, MeetOrLate}
use Rattle.teg_jit.specs.LateRefusals.{KeepsRow}
use Rattle.teg_due.proofs.DueOnce.{no_row}
use Rattle.date_rows.proofs.teg_model_proofs.LiveRanks.{rank_bound, rank_in, ranks_in}
use Rattle.date_rows.proofs.teg_model_proofs.DateFunctions.{Dating}
use Rattle.teg_jit.proofs.LateWalks.{Reached, reached}
use Rattle.teg_jit.proofs.LateRows.{all_kept, first_late_is}

more_kept : (x : Dating) (rows : List DueRow) (i : ℕ) → i < length rows → ((m : ℕ) (q : DueRow) → m < length rows → m < i → KeepsRow x (get_or rows m q)) → KeepsRow x (get_or rows i no_row)
    → (m : ℕ) (q : DueRow) → m < length rows → m < suc i → KeepsRow x (get_or rows m q)
more_kept x rows i l kept here m q in' low = ⊎_elim
    (λ (e : m < i). kept m q in' e)
    (λ (e : i ≤ m).
    let is : m ≡ i = omega (arith, low) in
    let row : get_or rows m q ≡ get_or rows i no_row = ap (λ j. get_or rows j q) is ∙ get_or_default rows i q no_row l in
    subst (λ (z : DueRow). KeepsRow x z) (sym row) here)
    (cases_lt m i)

scan : (net : NetLists) (rows : List DueRow) (x : Dating) → HasEndsInRange net → IsLive net → IsDueOf net rows → IsLeastUnder net inputs_at_zero x → (j i : ℕ) → i + j ≡ length rows
    → ((m : ℕ) (q : DueRow) → m < length rows → m < i → KeepsRow x (get_or rows m q)) → All (KeepsRow x) rows ⊎ IsLate net rows
scan net rows x ends live due h zero i e kept = inl (λ m q l. kept m q l (omega (arith, l)))
scan net rows x ends live due h (suc j) i e kept =
    let r : DueRow = get_or rows i no_row in
    let l : i < length rows = omega arith in
    let own = due.each i no_row l in
    let w : Reached net x r.transition.index r.number =
    reached net x (rank_bound net) (rank_in net) ends
    (ranks_in net ends live) h r.transition.index r.number own.in_range own.from_one in
    let date : ℕ = start_date net w.from w.number + walk_time net w.steps in
    ⊎_elim
    (λ (late : r.date < date).
    inr (record {
      x = x;
      is_least_dating = h;
      t = r.transition;
      number = r.number;
      due = r.date;
      least = date;
      first = first_late_is x rows i date r (λ m q in' low. kept m q in' low) l (λ q. get_or_default rows i q no_row l) w.is late;
      from = w.from;
      from_number = w.number;
      steps = w.steps;
      from_in = w.from_in;
      from_one = w.from_one;
      walk = w.walk;
      takes = refl;
    }))
    (λ (low : date ≤ r.date).
    let here : KeepsRow x r = rw w.is (omega (arith, ints)) in
    scan net rows x ends live due h j (suc i) (omega arith) (more_kept x rows i l kept here))
    (cases_lt r.date date)

pub meet_or_late : MeetOrLate
meet_or_late net rows ends live due =
    let ranked = live_is_ranked net ends live in
    let x : Dating = least_over (system_of net inputs_at_zero) ranked.0 ranked.1 in
    let h : IsLeastUnder net inputs_at_zero x = least_of_system net inputs_at_zero x (least_of net inputs_at_zero ranked.0 ranked.1 ranked.2) in
    ⊎_elim
    (λ (kept : All (KeepsRow x) rows). inl (all_kept net x rows h kept))
    (λ (late : IsLate net rows). inr late)
    (scan net rows x ends live due h (length rows) 0 (omega arith) (λ m q l low. absurd (omega (arith, low))))
