-- What the window of a settled form tells of its net: whether the least dating keeps rows for ever.
use Rattle.std.proofs.Common.{ℕ, ℤ, ◌+◌, ◌*◌, ◌/◌, ◌<◌, ◌≤◌, ◌≡◌, List, [], ◌∷◌, ◌++◌, length, take, get_or, sym, ap, subst, ◌∙◌, arith, ⊎_elim, ◌-◌, ◌*ℤ◌}
use Rattle.std.specs.Prelude.{pos, ◌≤ℤ◌, ◌↔◌, All}
use Rattle.std.proofs.lemmas.Bool.{cases_lt}
use Rattle.std.proofs.lemmas.Int.{ints}
use Rattle.std.proofs.lemmas.List.Elements.{All-push}
use Rattle.std.proofs.Math.Seq.{take-suc}
use native.Mathlib.Numerals.{unary_clauses}
use Rattle.dioid.specs.declared.dates.Date.{Date}
use Rattle.dioid.specs.declared.dates.Date.TheVariants.{At}
use Rattle.dioid.specs.Dates.{IsAtMostDate, move}
use Rattle.teg_net.specs.Nets.{NetLists}
use Rattle.teg_model.specs.Datings.{listed_releases}
use Rattle.teg_model.proofs.OfNet.{only_least}
use Rattle.teg_model.proofs.Tokens.{not_before_zero}
use Rattle.settled_laws.specs.SettledForms.{SettledForm, IsSettledFormOf, settled_date, step_of_form}
use Rattle.settled_laws.proofs.Telling.{form_tells}
use Rattle.due_laws.specs.MeetingDueDates.{InputsMeet}
use Rattle.endless_due.specs.declared.row.EndlessRow.{EndlessRow}
use Rattle.endless_due.specs.EndlessRows.{due_on, IsEndlessRow, IsEndlessOf}
use Rattle.forever_laws.proofs.GoingOn.{due_number, due_is}
use Rattle.endless_laws.specs.declared.kept_rows.Window.{Window}
use Rattle.endless_laws.specs.KeptRows.{KeepsRowAt, KeepsRowTo, KeepsRow, RisesNoFaster}
use Rattle.endless_laws.specs.KeptWindows.{IsWindowOf, RisesInTurn}
use Rattle.endless_laws.proofs.KeptRows.{number_below, date_on, windows_tell, rows_tell}

-- datings that agree at a number keep the row alike there
alike_at : (x y : ℕ → ℕ → Date) (r : EndlessRow) (k : ℕ) → x r.transition.index k ≡ y r.transition.index k → KeepsRowAt x r k → KeepsRowAt y r k
alike_at x y r k e h d due = subst (λ (z : Date). IsAtMostDate z (At (pos d))) e (h d due)

-- kept up to the number before, and at the number
pub keeps_more : (x : ℕ → ℕ → Date) (r : EndlessRow) (n : ℕ) → KeepsRowTo x r (n - 1) → KeepsRowAt x r n → KeepsRowTo x r n
keeps_more x r n before here k one low =
    ⊎_elim
    (λ (less : k < n). before k one (omega arith))
    (λ (more : n ≤ k). let same : n ≡ k = omega arith in subst (KeepsRowAt x r) same here)
    (cases_lt k n)

-- what holds of the first items of a list, and of the next
pub all_more : {X : Type 0} (P : X → Type 0) (xs : List X) (i : ℕ) (x : X) → i < length xs → x ≡ get_or xs i x → P x → All P (take i xs) → All P (take (i + 1) xs)
all_more {X} P xs i x l is here before =
    let taken : take (i + 1) xs ≡ take i xs ++ get_or xs i x ∷ [] = simp unary_clauses (take-suc xs i x l) in
    subst (All P) (sym (taken ∙ ap (λ (y : X). take i xs ++ y ∷ []) (sym is))) (All-push P (take i xs) x before here)

-- a number rises by a step and no more than by another
rises_number : (s : ℤ) (a n : ℕ) → IsAtMostDate (move s (At (pos a))) (move (pos n) (At (pos a))) ↔ (s ≤ℤ pos n)
rises_number s a n = (λ h. omega (arith, ints, h), λ h. omega (arith, ints, h))

rises_date : (s : ℤ) (a n m : ℕ) (first second : Date) → first ≡ At (pos a) → second ≡ move s (At (pos a)) → m ≡ n
    → IsAtMostDate second (move (pos m) first) ↔ (s ≤ℤ pos n)
rises_date s a n m first second e f g = rw (e, f, g) (rises_number s a n)

module _ (net : NetLists) (f : SettledForm) (form : IsSettledFormOf net f) where
  told : (t k : ℕ) → t < length net.transitions → 1 ≤ k → settled_date f t k ≡ form.0 t k
  told t k l one = form_tells (length net.transitions) f form.0 form.2.stands t k l one

  by_form : (r : EndlessRow) → IsEndlessRow net r → (k : ℕ) → 1 ≤ k → KeepsRowAt form.0 r k → KeepsRowAt (settled_date f) r k
  by_form r row k one = alike_at form.0 (settled_date f) r k (sym (told r.transition.index k row.in_range one))

  by_dating : (r : EndlessRow) → IsEndlessRow net r → (k : ℕ) → 1 ≤ k → KeepsRowAt (settled_date f) r k → KeepsRowAt form.0 r k
  by_dating r row k one = alike_at (settled_date f) form.0 r k (told r.transition.index k row.in_range one)

  -- where the row is kept at the first number past the window's start, its turn tells how fast the dates rise
  turn_tells : (r : EndlessRow) → IsEndlessRow net r → (w : Window) → IsWindowOf f r w → KeepsRowAt form.0 r (w.past + 1)
      → RisesInTurn f r w ↔ RisesNoFaster f r w.periods (w.turn / r.every)
  turn_tells r row w ok kept =
      let t : ℕ = r.transition.index in
      let k : ℕ = w.past + 1 in
      let low = not_before_zero net (listed_releases net) form.0 form.1.feasible t k row.in_range (omega arith) in
      let first = number_below (form.0 t k) (due_number r k) low (kept (due_number r k) (due_is r k)) in
      let rise : ℤ = pos w.periods *ℤ step_of_form f t in
      let on : form.0 t (k + w.turn) ≡ move rise (form.0 t k) =
      date_on net (listed_releases net) form.0 form.1.feasible f form.2.stands r row w.past w.turn w.periods (w.turn / r.every) ok.common k (omega arith) in
      rises_date rise first.0 (w.turn / r.every * r.gap) w.rise (settled_date f t k) (settled_date f t (k + w.turn))
      (told t k row.in_range (omega arith) ∙ first.1)
      (told t (k + w.turn) row.in_range (omega arith) ∙ (on ∙ ap (move rise) first.1))
      ok.rise

  -- the window tells whether the form keeps the row
  pub row_kept : (r : EndlessRow) → IsEndlessRow net r → (w : Window) → IsWindowOf f r w
      → KeepsRow (settled_date f) r ↔ (KeepsRowTo (settled_date f) r (w.past + w.turn) × RisesInTurn f r w)
  row_kept r row w ok =
      let law = windows_tell net (listed_releases net) form.0 form.1.feasible f form.2.stands r row w.past w.turn w.periods (w.turn / r.every) ok.common in
      let some = ok.common.some in (
        λ keeps.
            let all : KeepsRow form.0 r = λ k one. by_dating r row k one (keeps k one) in
            (λ k one l. keeps k one, (turn_tells r row w ok (all (w.past + 1) (omega arith))).1 (law.0 all).1),
        λ window.
            let to : KeepsRowTo form.0 r (w.past + w.turn) = λ k one l. by_dating r row k one (window.0 k one l) in
            let slow : RisesNoFaster f r w.periods (w.turn / r.every) = (turn_tells r row w ok (to (w.past + 1) (omega arith) (omega arith))).0 window.1 in
            λ k one. by_form r row k one (law.1 (to, slow) k one),
      )

  -- rows that the form keeps are due dates that the inputs of the net meet
  pub rows_kept : (rows : List EndlessRow) → IsEndlessOf net rows → All (KeepsRow (settled_date f)) rows ↔ InputsMeet net (due_on rows) (listed_releases net)
  rows_kept rows ok = (
    λ all. (form.0, form.1, (rows_tell net rows ok form.0).1 (λ i o l k one. by_dating (get_or rows i o) (ok.each i o l) k one (all i o l k one))),
    λ meets i o l k one.
        let r : EndlessRow = get_or rows i o in
        let row : IsEndlessRow net r = ok.each i o l in
        let same : meets.0 r.transition.index k ≡ form.0 r.transition.index k =
        only_least net (listed_releases net) meets.0 form.0 meets.1 form.1 r.transition.index k row.in_range one in
        by_form r row k one (alike_at meets.0 form.0 r k same ((rows_tell net rows ok meets.0).0 meets.2 i o l k one)),
  )
