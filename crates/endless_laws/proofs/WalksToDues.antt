-- Walks to endless due dates that are begun later, and what they bound.
use Rattle.std.proofs.Common.{ℕ, zero, suc, ◌+◌, ◌-◌, ◌*◌, ◌/◌, ◌<◌, ◌≤◌, ◌≡◌, ◌≢◌, List, length, sym, ap, subst, ◌∙◌, arith, ⊎_elim}
use Rattle.std.specs.Prelude.{pos, Some}
use Rattle.std.proofs.lemmas.Bool.{cases_lt}
use Rattle.dioid.specs.declared.dates.Date.{Date}
use Rattle.dioid.specs.declared.dates.Date.TheVariants.{Never}
use Rattle.dioid.specs.Dates.{move}
use Rattle.dioid.proofs.DateOrder.{at_most_trans, never_last}
use Rattle.dioid.proofs.Moves.{move_move, move_zero, delayed_move}
use Rattle.teg_net.specs.Nets.{NetLists}
use Rattle.teg_net.specs.Walks.{walk_time}
use Rattle.settled_laws.proofs.Telling.{back_in}
use Rattle.due_laws.specs.LatestDates.{IsDateToDue}
use Rattle.due_laws.proofs.LatestDates.{feasible_keeps, never_or_not}
use Rattle.latest_laws.proofs.BackwardEquations.{below_walk}
use Rattle.latest_laws.proofs.Floats.{input_in}
use Rattle.endless_due.specs.declared.row.EndlessRow.{EndlessRow}
use Rattle.endless_due.specs.EndlessRows.{row_due, due_on, IsEndlessRow, IsEndlessOf}
use Rattle.forever_laws.proofs.FirstLate.{on_by}
use Rattle.forever_laws.proofs.GoingOn.{due_number, due_is, due_only, due_again}
use Rattle.forever_laws.proofs.Meeting.{due_of_row, walk_later}
use Rattle.forever_laws.proofs.FirstRows.{row_at}
use Rattle.endless_laws.specs.WalksToDues.{IsWalkToRow, WalksMoveOn, IsTurningWalk, AreShownByWalks, FewWalksShowAll, ShownInputsAreLatest}

pub walks_on : WalksMoveOn
walks_on net r row t k date steps n w far rounds =
    let more : ℕ = rounds * r.every in
    let later : ℕ = rounds * r.gap in
    let enough = row.goes_on.enough in
    let due : due_number r (n + more) ≡ due_number r n + later =
    on_by (due_number r) (length r.dates - r.every) r.every r.gap (λ j m. due_again net r row j (omega arith)) rounds n (omega arith) in
    let here : w.due_date ≡ due_number r n = due_only r n w.due_date w.is_due in
    let same : due_number r (n + more) ≡ w.due_date + later = omega arith in
    record {
      walk = walk_later net steps t k r.transition.index n more w.walk;
      due_date = w.due_date + later;
      is_due = due_is r (n + more) ∙ ap (λ (d : ℕ). Some d) same;
      is = delayed_move (walk_time net steps) (pos later) date ∙ ap (move (pos later)) w.is;
    }

-- the dates some turns on
moved_on : (v : ℕ → Date) (start turn rise : ℕ) → ((k : ℕ) → start < k → v (k + turn) ≡ move (pos rise) (v k)) → (j k : ℕ) → start < k → v (k + j * turn) ≡ move (pos (j * rise)) (v k)
moved_on v start turn rise again zero k l =
    let e : k + 0 * turn ≡ k = omega arith in
    let none : 0 * rise ≡ 0 = omega arith in
    ap v e ∙ (sym (move_zero (v k)) ∙ ap (λ (n : ℕ). move (pos n) (v k)) (sym none))
moved_on v start turn rise again (suc j) k l =
    let at : ℕ = k + j * turn in
    let e : k + suc j * turn ≡ at + turn = omega arith in
    let sum : j * rise + rise ≡ suc j * rise = omega arith in
    ap v e ∙ (again at (omega arith) ∙ (ap (move (pos rise)) (moved_on v start turn rise again j k l)
    ∙ (move_move (pos (j * rise)) (pos rise) (v k) ∙ ap (λ (n : ℕ). move (pos n) (v k)) sum)))

module _ (net : NetLists) (rows : List EndlessRow) (ok : IsEndlessOf net rows) (t : ℕ) (v : ℕ → Date) (start turn rise : ℕ) (shown : AreShownByWalks net rows t v start turn rise) where
  -- a walk that turns, some turns later
  shown_on : (k j : ℕ) → start < k → k ≤ start + turn → IsDateToDue net (due_on rows) t (k + j * turn) (v (k + j * turn))
  shown_on k j l m =
      let w : IsTurningWalk net rows t k (v k) turn rise = shown.turning k l m in
      let r : EndlessRow = w.row in
      let at = row_at rows w.index r w.is_row in
      let row : IsEndlessRow net r = rw (at.1 r) at (ok.each w.index r at.0) in
      let rounds : ℕ = j * w.rounds in
      let long : rounds * r.every ≡ j * turn = (let e : j * w.rounds * r.every ≡ j * (w.rounds * r.every) = grind arith in e ∙ ap (λ (n : ℕ). j * n) (sym w.by_list)) in
      let wide : rounds * r.gap ≡ j * rise = (let e : j * w.rounds * r.gap ≡ j * (w.rounds * r.gap) = grind arith in e ∙ ap (λ (n : ℕ). j * n) (sym w.by_gap)) in
      let on : IsWalkToRow net r t (k + rounds * r.every) (move (pos (rounds * r.gap)) (v k)) w.steps (w.number + rounds * r.every) =
      walks_on net r row t k (v k) w.steps w.number w.walk w.goes_on rounds in
      let there : IsWalkToRow net r t (k + j * turn) (v (k + j * turn)) w.steps (w.number + rounds * r.every) =
      subst (λ (d : Date). IsWalkToRow net r t (k + j * turn) d w.steps (w.number + rounds * r.every)) (sym (moved_on v start turn rise shown.again j k l))
      (subst (λ (n : ℕ). IsWalkToRow net r t (k + j * turn) (move (pos n) (v k)) w.steps (w.number + rounds * r.every)) wide
      (subst (λ (n : ℕ). IsWalkToRow net r t (k + n) (move (pos (rounds * r.gap)) (v k)) w.steps (w.number + rounds * r.every)) long on)) in
      let number : ℕ = w.number + rounds * r.every in
      let due : due_on rows r.transition.index number ≡ Some there.due_date =
      ap (λ (q : EndlessRow). due_on rows q.transition.index number) (sym (at.1 r))
      ∙ (due_of_row net rows ok w.index number r at.0 ∙ (ap (λ (q : EndlessRow). row_due q number) (at.1 r) ∙ there.is_due)) in
      record { to = r.transition.index; number = number; due_date = there.due_date; steps = w.steps; walk = there.walk; is_due = due; is = there.is }

  pub each_shown : (k : ℕ) → 1 ≤ k → IsDateToDue net (due_on rows) t k (v k)
  each_shown k one =
      ⊎_elim
      (λ (past : start < k).
      ⊎_elim
      (λ (far : start + turn < k).
      let back = back_in start turn k shown.some far in
      let j : ℕ = (k - (start + turn) - 1) / turn + 1 in
      subst (λ (n : ℕ). IsDateToDue net (due_on rows) t n (v n)) back.2 (shown_on (k - j * turn) j back.0 back.1))
      (λ (near : k ≤ start + turn).
      let same : k + 0 * turn ≡ k = omega arith in
      subst (λ (n : ℕ). IsDateToDue net (due_on rows) t n (v n)) same (shown_on k 0 past near))
      (cases_lt (start + turn) k))
      (λ (first : k ≤ start). shown.walks k one first)
      (cases_lt start k)

pub few_show_all : FewWalksShowAll
few_show_all net rows ok t v start turn rise shown = each_shown net rows ok t v start turn rise shown

-- ---- the latest inputs

pub shown_are_latest : ShownInputsAreLatest
shown_are_latest net ends due v inputs meet walks = (
  record {
    inputs = inputs;
    meet = meet;
    latest = λ w other meets t k i one.
        ⊎_elim
        (λ (never : v t k ≡ Never). rw never (never_last (w t k)))
        (λ (dated : v t k ≢ Never).
        let keeps = feasible_keeps net w meets.0 meets.1.feasible in
        at_most_trans (w t k) (meets.0 t k) (v t k) (meets.1.feasible.inputs t k one i)
        (below_walk net due meets.0 ends keeps meets.2 t k (v t k) (input_in net t i) one (walks t k i one dated)))
        (never_or_not (v t k));
  },
  λ t k i one. record {
    attained = walks t k i one;
    least = λ d to.
        let f = meet.1.feasible in
        at_most_trans (v t k) (meet.0 t k) d (f.inputs t k one i)
        (below_walk net due meet.0 ends (feasible_keeps net v meet.0 f) meet.2 t k d (input_in net t i) one to);
  },
)
