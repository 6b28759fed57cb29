-- A dating that a settled form stands for keeps an endless row for ever just where it does in a window.
use Rattle.std.proofs.Common.{ℕ, ℤ, zero, suc, ◌+◌, ◌-◌, ◌*◌, ◌/◌, ◌<◌, ◌≤◌, ◌≡◌, length, refl, sym, ap, subst, ◌∙◌, arith, ⊎_elim, ◌⊎◌, inl, inr, ◌*ℤ◌}
use Rattle.std.specs.Prelude.{pos, negsuc, ◌≤ℤ◌, get_or}
use Rattle.std.proofs.lemmas.Bool.{cases_lt}
use Rattle.std.proofs.lemmas.Int.{ints}
use Rattle.std.proofs.Math.Nat.{mul-le-mul_left}
use Rattle.dioid.specs.declared.dates.Date.{Date}
use Rattle.dioid.specs.declared.dates.Date.TheVariants.{Early, At, Never}
use Rattle.dioid.specs.Dates.{IsAtMostDate, move}
use Rattle.dioid.proofs.Moves.{move_rises}
use Rattle.teg_net.specs.Nets.{NetLists}
use Rattle.teg_model.specs.Datings.{IsFeasibleUnder}
use Rattle.teg_model.proofs.Tokens.{not_before_zero}
use Rattle.settled_laws.specs.SettledForms.{SettledForm, StandsFor, step_of_form}
use Rattle.settled_laws.proofs.Telling.{rounds_on, back_in}
use Rattle.endless_due.specs.declared.row.EndlessRow.{EndlessRow}
use Rattle.endless_due.specs.EndlessRows.{IsEndlessRow}
use Rattle.forever_laws.proofs.GoingOn.{due_number, due_is, due_only, due_again}
use Rattle.forever_laws.proofs.FirstLate.{on_by}
use Rattle.forever_laws.proofs.Meeting.{HasRow, has_row, due_of_row}
use Rattle.endless_laws.specs.KeptRows.{KeepsRowAt, KeepsRowTo, KeepsRow, IsCommonTurn, WindowsTellKept, RowsTellKept}

-- a row is kept at a number just where its date is at most the due number there
kept_is : (x : ℕ → ℕ → Date) (r : EndlessRow) (k : ℕ) → IsAtMostDate (x r.transition.index k) (At (pos (due_number r k))) → KeepsRowAt x r k
kept_is x r k most d due = subst (λ (n : ℕ). IsAtMostDate (x r.transition.index k) (At (pos n))) (sym (due_only r k d due)) most

-- a date from 0 on that is at most a number is a number
pub number_below : (d : Date) (n : ℕ) → IsAtMostDate (At (pos 0)) d → IsAtMostDate d (At (pos n)) → (m : ℕ) × (d ≡ At (pos m)) × (m ≤ n)
number_below Early n low most = absurd low
number_below (At (pos m)) n low most = (m, refl, omega (arith, ints, most))
number_below (At (negsuc m)) n low most = absurd (omega (arith, ints, low))
number_below Never n low most = absurd most

-- a step that is not at most a number is more than it
pub step_cases : (s : ℤ) (n : ℕ) → (s ≤ℤ pos n) ⊎ ((m : ℕ) × (s ≡ pos m) × (n < m))
step_cases (pos m) n = ⊎_elim (λ (l : n < m). inr (m, refl, l)) (λ (l : m ≤ n). inl (omega (arith, ints, l))) (cases_lt n m)
step_cases (negsuc m) n = inl (omega (arith, ints))

module _ (net : NetLists) (u x : ℕ → ℕ → Date) (feasible : IsFeasibleUnder net u x) (f : SettledForm) (stands : StandsFor (length net.transitions) f x)
    (r : EndlessRow) (row : IsEndlessRow net r) (past turn periods rounds : ℕ) (w : IsCommonTurn f r past turn periods rounds) where
  abbrev z : ℕ → Date
  z k = x r.transition.index k

  abbrev rise : ℤ
  rise = pos periods *ℤ step_of_form f r.transition.index

  abbrev fall : ℕ
  fall = rounds * r.gap

  -- a turn on
  pub date_on : (k : ℕ) → past < k → z (k + turn) ≡ move rise (z k)
  date_on k l =
      let low = w.past_form in
      ap (λ (n : ℕ). z (k + n)) w.by_form
      ∙ rounds_on (length net.transitions) x f.after f.period (step_of_form f) stands.repeats r.transition.index k periods row.in_range (omega arith)

  pub due_on : (k : ℕ) → past < k → due_number r (k + turn) ≡ due_number r k + fall
  due_on k l =
      let far = w.past_list in
      ap (λ (n : ℕ). due_number r (k + n)) w.by_list
      ∙ on_by (due_number r) past r.every r.gap (λ j m. due_again net r row j (omega arith)) rounds k l

  abbrev IsKept : ℕ → Type 0
  IsKept k = IsAtMostDate (z k) (At (pos (due_number r k)))

  kept_at : KeepsRow x r → (k : ℕ) → 1 ≤ k → IsKept k
  kept_at keeps k one = keeps k one (due_number r k) (due_is r k)

  -- ---- from the window on

  kept_on : rise ≤ℤ pos fall → (k j : ℕ) → past < k → IsKept k → IsKept (k + j * turn)
  kept_on slow k zero l here = let e : k + 0 * turn ≡ k = omega arith in subst IsKept (sym e) here
  kept_on slow k (suc j) l here =
      let at : ℕ = k + j * turn in
      let e : k + suc j * turn ≡ at + turn = omega arith in
      let above : past < at = omega arith in
      let moved : IsAtMostDate (move rise (z at)) (At (pos (due_number r at + fall))) = move_rises rise (pos fall) (z at) (At (pos (due_number r at))) slow (kept_on slow k j l here) in
      let there : IsAtMostDate (z (at + turn)) (At (pos (due_number r at + fall))) = subst (λ (d : Date). IsAtMostDate d (At (pos (due_number r at + fall)))) (sym (date_on at above)) moved in
      subst IsKept (sym e) (subst (λ (n : ℕ). IsAtMostDate (z (at + turn)) (At (pos n))) (sym (due_on at above)) there)

  pub by_window : KeepsRowTo x r (past + turn) → rise ≤ℤ pos fall → KeepsRow x r
  by_window window slow k one =
      ⊎_elim
      (λ (far : past + turn < k).
      let back = back_in past turn k w.some far in
      let j : ℕ = (k - (past + turn) - 1) / turn + 1 in
      let base : ℕ = k - j * turn in
      let here : IsKept base = window base (omega (arith, back.0)) back.1 (due_number r base) (due_is r base) in
      kept_is x r k (subst IsKept back.2 (kept_on slow base j back.0 here)))
      (λ (near : k ≤ past + turn). window k one near)
      (cases_lt (past + turn) k)

  -- ---- no faster

  pub number_on : (m a k j : ℕ) → rise ≡ pos m → past < k → z k ≡ At (pos a) → z (k + j * turn) ≡ At (pos (a + j * m))
  number_on m a k zero e l is =
      let same : k + 0 * turn ≡ k = omega arith in
      let none : a ≡ a + 0 * m = omega arith in
      ap z same ∙ (is ∙ ap (λ (n : ℕ). At (pos n)) none)
  number_on m a k (suc j) e l is =
      let at : ℕ = k + j * turn in
      let on : k + suc j * turn ≡ at + turn = omega arith in
      let more : (a + j * m) + m ≡ a + suc j * m = grind arith in
      ap z on ∙ (date_on at (omega arith) ∙ (ap (λ (s : ℤ). move s (z at)) e
      ∙ (ap (move (pos m)) (number_on m a k j e l is) ∙ ap (λ (n : ℕ). At (pos n)) more)))

  pub no_faster : KeepsRow x r → rise ≤ℤ pos fall
  no_faster keeps =
      ⊎_elim
      (λ slow. slow)
      (λ (fast : (m : ℕ) × (rise ≡ pos m) × (fall < m)).
      let m : ℕ = fast.0 in
      let k : ℕ = past + 1 in
      let d : ℕ = due_number r k in
      let first = number_below (z k) d (not_before_zero net u x feasible r.transition.index k row.in_range (omega arith)) (kept_at keeps k (omega arith)) in
      let a : ℕ = first.0 in
      let at : ℕ = k + (d + 1) * turn in
      let date : z at ≡ At (pos (a + (d + 1) * m)) = number_on m a k (d + 1) fast.1 (omega arith) first.1 in
      let due : due_number r at ≡ d + (d + 1) * fall = on_by (due_number r) past turn fall due_on (d + 1) k (omega arith) in
      let kept : IsAtMostDate (At (pos (a + (d + 1) * m))) (At (pos (due_number r at))) = subst (λ (y : Date). IsAtMostDate y (At (pos (due_number r at)))) date (kept_at keeps at (omega arith)) in
      let low : a + (d + 1) * m ≤ due_number r at = omega (arith, ints, kept) in
      let more : (d + 1) * (fall + 1) ≤ (d + 1) * m = mul-le-mul_left {m = fall + 1} {n = m} (d + 1) (omega (arith, fast.2)) in
      let spread : (d + 1) * (fall + 1) ≡ (d + 1) * fall + (d + 1) = grind arith in
      absurd (omega (arith, low, more, spread, due)))
      (step_cases rise fall)

pub windows_tell : WindowsTellKept
windows_tell net u x feasible f stands r row past turn periods rounds w = (
  λ keeps. (λ k one l. keeps k one, no_faster net u x feasible f stands r row past turn periods rounds w keeps),
  λ told. by_window net u x feasible f stands r row past turn periods rounds w told.0 told.1,
)

-- ---- rows

pub rows_tell : RowsTellKept
rows_tell net rows ok x = (
  λ keeps i o l k one d due. (
      let r : EndlessRow = get_or rows i o in
      let row : IsEndlessRow net r = ok.each i o l in
      keeps r.transition.index k d row.in_range one (due_of_row net rows ok i k o l ∙ due)),
  λ each t k d within one due.
      let h : HasRow rows t k d = has_row rows t k d due in
      let own : KeepsRow x h.row = rw h.is at (each h.index h.row h.within) in
      subst (λ (a : ℕ). IsAtMostDate (x a k) (At (pos d))) h.names (own k one d h.due),
)
