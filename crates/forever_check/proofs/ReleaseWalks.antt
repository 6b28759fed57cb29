-- Walks to rows of a due list that is cut off show dates of releases without end.
use Rattle.std.proofs.Common.{ℕ, zero, suc, ◌+◌, ◌-◌, ◌*◌, ◌/◌, ◌<◌, ◌≤◌, ◌≡◌, ◌≢◌, List, [], ◌∷◌, Option, Some, None, true, false, leb, length, get_or, refl, sym, ap, subst, ◌∙◌, arith, ⊎_elim}
use Rattle.std.specs.Prelude.{pos, All, Any, slice_get, ◌+ℤ◌}
use Rattle.std.proofs.lemmas.Bool.{cases_Bool}
use Rattle.std.proofs.lemmas.Bool.Decides.{nat_tests}
use Rattle.std.proofs.lemmas.Int.{ints}
use Rattle.dioid.specs.declared.dates.Date.{Date}
use Rattle.dioid.specs.declared.dates.Date.TheVariants.{At, Never}
use Rattle.dioid.specs.Dates.{move}
use Rattle.teg_net.specs.declared.entries.Again.{Again}
use Rattle.teg_net.specs.declared.entries.InputList.{InputList}
use Rattle.teg_net.specs.declared.entries.TransitionId.{TransitionId}
use Rattle.teg_net.specs.Inputs.{GoOnBy, list_date, moved_by}
use Rattle.teg_net.specs.Nets.{NetLists, EndsOrGoesOn, ListGoesOn}
use Rattle.teg_net.specs.Walks.{Walks}
use Rattle.teg_net.proofs.InputDates.{IsInputDates-list_date}
use Rattle.teg_due.specs.declared.rows.DueRow.{DueRow}
use Rattle.teg_model.specs.Datings.{as_date}
use Rattle.due_laws.specs.LatestDates.{IsDateToDue}
use Rattle.latest_certificates.specs.LatestRows.{IsRowOf, ListsDues}
use Rattle.endless_due.specs.declared.row.EndlessRow.{EndlessRow}
use Rattle.endless_due.specs.EndlessRows.{row_due, due_on, IsEndlessOf}
use Rattle.forever_laws.proofs.FirstLate.{on_by}
use Rattle.forever_laws.proofs.Meeting.{due_of_row}
use Rattle.endless_laws.specs.WalksToDues.{IsTurningWalk}
use Rattle.endless_laws.proofs.WalksToDues.{few_show_all}
use Rattle.forever_check.specs.declared.turns.Turn.{Turn}
use Rattle.forever_check.specs.ReleaseWalks.{GoesByTurn, GoesWith, IsDueBy, IsDueIn, IsTurningDue, IsTurningIn, AreShownBetween, AreShownInTurn, IsReleaseShown}
use Rattle.forever_check.specs.ShownReleases.{list_release}

-- what is read at a place of a list stands there
got : {X : Type 0} (xs : List X) (i : ℕ) (x : X) → i < length xs → get_or xs i x ≡ x → slice_get xs i ≡ Some x
got [] i x l e = absurd (omega arith)
got (y ∷ ys) zero x l e = ap (λ z. Some z) e
got (y ∷ ys) (suc i) x l e = got ys i x (omega arith) e

-- ---- walks to due rows

module _ (net : NetLists) (rows : List EndlessRow) (dues : List DueRow) (due : ℕ → ℕ → Option ℕ) (listed : ListsDues dues due) (t k : ℕ) (date : Date) (w : IsDateToDue net due t k date) where
  abbrev named : Any (λ d. IsRowOf d w.to w.number w.due_date) dues
  named = (listed w.to w.number w.due_date).0 w.is_due

  abbrev own : DueRow
  own = named.1

  is_own : IsRowOf own w.to w.number w.due_date
  is_own = named.4

  -- what holds of all rows of the list holds of this one
  of_own : (P : DueRow → Type 0) → All P dues → P own
  of_own P each = subst P named.3 (each named.0 own named.2)

  pub first_walk : IsEndlessOf net rows → All (IsDueIn rows) dues → IsDateToDue net (due_on rows) t k date
  first_walk ok each =
      let by : Any (λ r. IsDueBy r own) rows = (of_own (IsDueIn rows) each).by_some in
      let r : EndlessRow = by.1 in
      let is : IsDueBy r own = by.4 in
      let found : due_on rows r.transition.index own.number ≡ row_due r own.number =
      subst (λ (q : EndlessRow). due_on rows q.transition.index own.number ≡ row_due q own.number) by.3 (due_of_row net rows ok by.0 own.number r by.2) in
      let place : r.transition.index ≡ w.to = is.names ∙ is_own.transition in
      record {
        to = w.to;
        number = w.number;
        due_date = w.due_date;
        steps = w.steps;
        walk = w.walk;
        is_due = ap (λ (s : ℕ). due_on rows s w.number) (sym place)
            ∙ (ap (λ (n : ℕ). due_on rows r.transition.index n) (sym is_own.number) ∙ (found ∙ (is.due ∙ ap (λ (x : ℕ). Some x) is_own.date)));
        is = w.is;
      }

  pub turning_walk : (turn : Turn) → All (IsTurningIn turn rows) dues → IsTurningWalk net rows t k date turn.firings turn.rise
  turning_walk turn each =
      let by : Any (λ r. IsTurningDue turn r own) rows = (of_own (IsTurningIn turn rows) each).by_some in
      let r : EndlessRow = by.1 in
      let is : IsTurningDue turn r own = by.4 in
      let place : r.transition.index ≡ w.to = is.by_row.names ∙ is_own.transition in
      record {
        index = by.0;
        row = r;
        is_row = got rows by.0 r by.2 by.3;
        steps = w.steps;
        number = w.number;
        walk = record {
          walk = subst (λ (s : ℕ). Walks net t k w.steps s w.number) (sym place) w.walk;
          due_date = w.due_date;
          is_due = ap (row_due r) (sym is_own.number) ∙ (is.by_row.due ∙ ap (λ (x : ℕ). Some x) is_own.date);
          is = w.is;
        };
        goes_on = subst (λ (n : ℕ). length r.dates < n + r.every) is_own.number is.goes_on;
        rounds = turn.firings / r.every;
        by_list = is.turns.by_every;
        by_gap = is.turns.by_gap;
      }

-- ---- dates of a list that go on

abbrev told : Option ℕ → ℕ
told None = 0
told (Some d) = d

module _ (dates : List ℕ) (a : Again) (on : ListGoesOn dates a) where
  abbrev dated : ℕ → Option ℕ
  dated k = list_date dates (Some a) k

  is_told : (k : ℕ) → dated k ≡ Some (told (dated k))
  is_told k =
      ⊎_elim
      (λ (e : leb k (length dates) ≡ true). rw e refl)
      (λ (e : leb k (length dates) ≡ false). rw e refl)
      (cases_Bool (leb k (length dates)))

  on_every : (k : ℕ) → length dates < k + a.every → told (dated (k + a.every)) ≡ told (dated k) + a.gap
  on_every k l =
      let list : InputList = record { transition = record { index = 0 }; dates = dates; again = Some a } in
      let past : GoOnBy (length dates) (Some a) dated = (IsInputDates-list_date list on).past in
      let back : k + a.every - a.every ≡ k = omega arith in
      ap told (past (k + a.every) l ∙ (ap (λ (n : ℕ). moved_by a.gap (dated n)) back ∙ ap (moved_by a.gap) (is_told k)))

  goes_again : (turn : Turn) → GoesByTurn (length dates) a turn → (k : ℕ) → turn.past < k → as_date (dated (k + turn.firings)) ≡ move (pos turn.rise) (as_date (dated k))
  goes_again turn g k l =
      let past = g.past in
      let rounds : ℕ = turn.firings / a.every in
      let f : ℕ → ℕ = λ n. told (dated n) in
      let far : f (k + rounds * a.every) ≡ f k + rounds * a.gap = on_by f turn.past a.every a.gap (λ j m. on_every j (omega arith)) rounds k l in
      let there : f (k + turn.firings) ≡ f k + turn.rise =
      ap (λ (n : ℕ). f (k + n)) g.turns.by_every ∙ (far ∙ ap (λ (n : ℕ). f k + n) (sym g.turns.by_gap)) in
      let moved : At (pos (f k + turn.rise)) ≡ move (pos turn.rise) (At (pos (f k))) = ap At (omega (arith, ints)) in
      ap as_date (is_told (k + turn.firings)) ∙ (ap (λ (n : ℕ). At (pos n)) there ∙ (moved ∙ ap (λ (o : Option ℕ). move (pos turn.rise) (as_date o)) (sym (is_told k))))

goes_with_again : (dates : List ℕ) (o : Option Again) (turn : Turn) → EndsOrGoesOn dates o → GoesWith dates o turn
    → (1 ≤ turn.firings) × ((k : ℕ) → turn.past < k → as_date (list_date dates o (k + turn.firings)) ≡ move (pos turn.rise) (as_date (list_date dates o k)))
goes_with_again dates None turn on g = absurd g
goes_with_again dates (Some a) turn on g = (g.some, goes_again dates a on turn g)

-- so walks up to the first turn show all dates
pub release_shown : (net : NetLists) (rows : List EndlessRow) → IsEndlessOf net rows → (l : InputList) (turn : Turn) → EndsOrGoesOn l.dates l.again → GoesWith l.dates l.again turn
    → AreShownBetween net (due_on rows) l 0 turn.past → AreShownInTurn net rows l turn → IsReleaseShown net rows l
release_shown net rows ok l turn on goes first turning =
    let again = goes_with_again l.dates l.again turn on goes in
    λ k one number. few_show_all net rows ok l.transition.index (list_release l) turn.past turn.firings turn.rise
    (record { some = again.0; again = again.1; walks = λ j m n. first j (omega arith) n; turning = turning }) k one

-- dates that end at once are all never
pub never_shown : (net : NetLists) (rows : List EndlessRow) (l : InputList) → l.again ≡ None → length l.dates ≡ 0 → IsReleaseShown net rows l
never_shown net rows l none short k one number =
    let past : leb k (length l.dates) ≡ false = grind (arith, nat_tests) in
    absurd (number (ap (λ (o : Option Again). as_date (list_date l.dates o k)) none ∙ (rw past refl)))
