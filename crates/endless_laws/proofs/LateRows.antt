-- A number that is late is the least of its row where none is up to where dates and due dates go on, nor in the turn before it.
use Rattle.std.proofs.Common.{ℕ, ℤ, ◌+◌, ◌-◌, ◌*◌, ◌/◌, ◌%◌, ◌<◌, ◌≤◌, ◌≡◌, length, refl, sym, ap, subst, ◌∙◌, arith, ⊎_elim, inl, inr, ◌*ℤ◌, ◌+ℤ◌}
use Rattle.std.specs.Prelude.{pos, negsuc, ◌≤ℤ◌, ◌↔◌, ⊤}
use Rattle.std.proofs.lemmas.Bool.{cases_lt}
use Rattle.std.proofs.lemmas.Int.{ints}
use Rattle.std.proofs.lemmas.Nat.{mod_below, div-add-mod'}
use Rattle.std.proofs.Math.Nat.{mul-le-mul_left}
use Rattle.dioid.specs.declared.dates.Date.{Date}
use Rattle.dioid.specs.declared.dates.Date.TheVariants.{Early, At, Never}
use Rattle.dioid.specs.Dates.{IsAtMostDate, move}
use Rattle.teg_net.specs.Nets.{NetLists}
use Rattle.teg_model.specs.Datings.{IsFeasibleUnder, listed_releases}
use Rattle.teg_model.proofs.OfNet.{only_least}
use Rattle.teg_model.proofs.Tokens.{not_before_zero}
use Rattle.settled_laws.specs.SettledForms.{SettledForm, StandsFor, IsSettledFormOf, settled_date, step_of_form}
use Rattle.settled_laws.proofs.Telling.{form_tells}
use Rattle.endless_due.specs.declared.row.EndlessRow.{EndlessRow}
use Rattle.endless_due.specs.EndlessRows.{IsEndlessRow}
use Rattle.forever_laws.specs.Late.{IsLateAt, IsLeastLate}
use Rattle.forever_laws.proofs.FirstLate.{on_by}
use Rattle.forever_laws.proofs.GoingOn.{due_number, due_is, due_only}
use Rattle.endless_laws.specs.declared.kept_rows.Window.{Window}
use Rattle.endless_laws.specs.KeptRows.{IsCommonTurn}
use Rattle.endless_laws.specs.KeptWindows.{IsWindowOf}
use Rattle.endless_laws.specs.LateRows.{IsLeastLateOf, NoneLateBetween, NoneLateNear}
use Rattle.endless_laws.proofs.KeptRows.{date_on, due_on, number_on, step_cases}

abbrev number_in : Date → ℤ
number_in Early = pos 0
number_in (At s) = s
number_in Never = pos 0

abbrev IsNumber : Date → Type 0
IsNumber Early = ⊥
IsNumber (At s) = ⊤
IsNumber Never = ⊥

-- what a date from 0 on was before it was moved to a number
moved_from : (s : ℤ) (d : Date) (n : ℕ) → IsAtMostDate (At (pos 0)) d → move s d ≡ At (pos n) → (m : ℕ) × (d ≡ At (pos m)) × (pos m +ℤ s ≡ pos n)
moved_from s Early n low is = absurd low
moved_from s (At (pos m)) n low is = (m, refl, ap number_in is)
moved_from s (At (negsuc m)) n low is = absurd (omega (arith, ints, low))
moved_from s Never n low is = absurd (subst IsNumber (sym is) tt)

-- a date that is moved by no more than its due date stays in time
stays_in_time : (s : ℤ) (fall date due least : ℕ) → s ≤ℤ pos fall → pos date +ℤ s ≡ pos least → date ≤ due → least ≤ due + fall
stays_in_time s fall date due least slow is kept = omega (arith, ints, slow, is, kept)

-- a number that comes past its due date is late, so one that is not late does not
in_time : (x : ℕ → ℕ → Date) (r : EndlessRow) (k m : ℕ) → 1 ≤ k → x r.transition.index k ≡ At (pos m) → ((due least : ℕ) → IsLateAt x r k due least → ⊥) → m ≤ due_number r k
in_time x r k m one comes none =
    ⊎_elim
    (λ (over : due_number r k < m). absurd (none (due_number r k) m (record { from_one = one; is_due = due_is r k; comes = comes; late = over })))
    (λ (kept : m ≤ due_number r k). kept)
    (cases_lt (due_number r k) m)

module _ (net : NetLists) (u x : ℕ → ℕ → Date) (feasible : IsFeasibleUnder net u x) (f : SettledForm) (stands : StandsFor (length net.transitions) f x)
    (r : EndlessRow) (row : IsEndlessRow net r) (past turn periods rounds : ℕ) (w : IsCommonTurn f r past turn periods rounds) where
  abbrev z : ℕ → Date
  z k = x r.transition.index k

  abbrev rise : ℤ
  rise = pos periods *ℤ step_of_form f r.transition.index

  abbrev fall : ℕ
  fall = rounds * r.gap

  -- a number a turn after one that is in time is late only where the dates rise faster than the due dates
  gains : (k due least : ℕ) → past + turn < k → IsLateAt x r k due least → NoneLateNear x r past turn k → (m : ℕ) × (rise ≡ pos m) × (fall < m)
  gains k due least far late near =
      let some = w.some in
      let before : ℕ = k - turn in
      let is : before + turn ≡ k = omega arith in
      let one : 1 ≤ before = omega arith in
      let low = not_before_zero net u x feasible r.transition.index before row.in_range one in
      let on : z k ≡ move rise (z before) = ap z (sym is) ∙ date_on net u x feasible f stands r row past turn periods rounds w before (omega arith) in
      let first = moved_from rise (z before) least low (sym on ∙ late.comes) in
      let kept : first.0 ≤ due_number r before = in_time x r before first.0 one first.1 (λ d l. near before d l (omega arith) (inr (omega arith))) in
      let due_here : due ≡ due_number r k = due_only r k due late.is_due in
      let due_there : due_number r k ≡ due_number r before + fall = ap (due_number r) (sym is) ∙ due_on net u x feasible f stands r row past turn periods rounds w before (omega arith) in
      let over = late.late in
      ⊎_elim
      (λ (slow : rise ≤ℤ pos fall). let most : least ≤ due_number r before + fall = stays_in_time rise fall first.0 (due_number r before) least slow first.2 kept in absurd (omega arith))
      (λ (fast : (m : ℕ) × (rise ≡ pos m) × (fall < m)). fast)
      (step_cases rise fall)

  -- a late number some turns before k would make one late that is near k
  none_before : (k due least j d y : ℕ) → IsLateAt x r k due least → NoneLateNear x r past turn k → IsLateAt x r j d y → j < k → past < j → j + turn < k → ⊥
  none_before k due least j d y late near sooner l above far =
      let some = w.some in
      let i : ℕ = (k - 1 - j) / turn in
      let rest : ℕ = (k - 1 - j) % turn in
      let small : rest < turn = mod_below (k - 1 - j) turn some in
      let parts : i * turn + rest ≡ k - 1 - j = div-add-mod' (k - 1 - j) turn in
      let at : ℕ = j + i * turn in
      let fast = gains k due least (omega arith) late near in
      let m : ℕ = fast.0 in
      let date : z at ≡ At (pos (y + i * m)) = number_on net u x feasible f stands r row past turn periods rounds w m y j i fast.1 above sooner.comes in
      let dues : due_number r at ≡ due_number r j + i * fall =
      on_by (due_number r) past turn fall (due_on net u x feasible f stands r row past turn periods rounds w) i j above in
      let kept : y + i * m ≤ due_number r at = in_time x r at (y + i * m) (omega arith) date (λ e q. near at e q (omega arith) (inr (omega arith))) in
      let due_here : d ≡ due_number r j = due_only r j d sooner.is_due in
      let over = sooner.late in
      let more : i * fall ≤ i * m = mul-le-mul_left {m = fall} {n = m} i (omega (arith, fast.2)) in
      omega arith

  least_where : (k due least : ℕ) → IsLateAt x r k due least → NoneLateNear x r past turn k → IsLeastLate x r k due least
  least_where k due least late near = record {
    late = late;
    first = λ j d y sooner.
        ⊎_elim
        (λ (l : j < k).
        ⊎_elim
        (λ (above : past < j).
        ⊎_elim
        (λ (far : j + turn < k). absurd (none_before k due least j d y late near sooner l above far))
        (λ (close : k ≤ j + turn). absurd (near j d y l (inr close) sooner))
        (cases_lt (j + turn) k))
        (λ (low : j ≤ past). absurd (near j d y l (inl low) sooner))
        (cases_lt past j))
        (λ (l : k ≤ j). l)
        (cases_lt j k);
  }

-- none is late before the least, near it or not
none_near : (x : ℕ → ℕ → Date) (r : EndlessRow) (past turn k due least : ℕ) → IsLeastLate x r k due least → NoneLateNear x r past turn k
none_near x r past turn k due least h j d y l close late = let after = h.first j d y late in omega arith

-- ---- numbers between others

pub none_more : (x : ℕ → ℕ → Date) (r : EndlessRow) (past n : ℕ) → NoneLateBetween x r past (n - 1) → ((due least : ℕ) → IsLateAt x r n due least → ⊥) → NoneLateBetween x r past n
none_more x r past n before here k due least above low late =
    ⊎_elim
    (λ (less : k < n). before k due least above (omega arith) late)
    (λ (more : n ≤ k). let same : k ≡ n = omega arith in here due least (subst (λ (i : ℕ). IsLateAt x r i due least) same late))
    (cases_lt k n)

-- the first numbers, and those past a number, are those near this one
pub near_tells : (x : ℕ → ℕ → Date) (r : EndlessRow) (past turn number first before : ℕ) → 1 ≤ number → (past < number → first ≡ past) → (number ≤ past → first + 1 ≡ number)
    → before ≡ number - 1 - turn → (NoneLateBetween x r 0 first × NoneLateBetween x r before (number - 1)) ↔ NoneLateNear x r past turn number
near_tells x r past turn number first before one low high is =
    let bounds : (first < number) × (first ≤ past) × ((j : ℕ) → j < number → j ≤ past → j ≤ first) =
    ⊎_elim
    (λ (p : past < number). let e : first ≡ past = low p in (omega arith, omega arith, λ j l m. omega arith))
    (λ (p : number ≤ past). let e : first + 1 ≡ number = high p in (omega arith, omega arith, λ j l m. omega arith))
    (cases_lt past number) in (
      λ none j d y l close late.
          let some = late.from_one in
          ⊎_elim
          (λ (under : j ≤ past). none.0 j d y some (bounds.2 j l under) late)
          (λ (turning : number ≤ j + turn). none.1 j d y (omega arith) (omega arith) late)
          close,
      λ near. (
        λ j d y above m late. near j d y (omega (arith, bounds.0)) (inl (omega (arith, bounds.1))) late,
        λ j d y above m late. near j d y (omega arith) (inr (omega arith)) late,
      ),
    )

-- ---- by the form

-- a number is late alike by datings that agree there
late_alike : (x y : ℕ → ℕ → Date) (r : EndlessRow) (k due least : ℕ) → x r.transition.index k ≡ y r.transition.index k → IsLateAt x r k due least → IsLateAt y r k due least
late_alike x y r k due least e h = record { from_one = h.from_one; is_due = h.is_due; comes = sym e ∙ h.comes; late = h.late }

module _ (net : NetLists) (f : SettledForm) (form : IsSettledFormOf net f) (r : EndlessRow) (row : IsEndlessRow net r) (w : Window) (ok : IsWindowOf f r w) where
  same : (k : ℕ) → 1 ≤ k → settled_date f r.transition.index k ≡ form.0 r.transition.index k
  same k one = form_tells (length net.transitions) f form.0 form.2.stands r.transition.index k row.in_range one

  pub least_of_form : (k due least : ℕ) → IsLateAt (settled_date f) r k due least → NoneLateNear (settled_date f) r w.past w.turn k → IsLeastLateOf net r k due least
  least_of_form k due least late near =
      let t : ℕ = r.transition.index in (
        form.0,
        form.1,
        least_where net (listed_releases net) form.0 form.1.feasible f form.2.stands r row w.past w.turn w.periods (w.turn / r.every) ok.common k due least
            (late_alike (settled_date f) form.0 r k due least (same k late.from_one) late)
            (λ j d y l close sooner. near j d y l close (late_alike form.0 (settled_date f) r j d y (sym (same j sooner.from_one)) sooner)),
      )

  -- of a least late number the form tells as much
  pub form_has_least : (k due least : ℕ) → IsLeastLateOf net r k due least → IsLateAt (settled_date f) r k due least × NoneLateNear (settled_date f) r w.past w.turn k
  form_has_least k due least h =
      let t : ℕ = r.transition.index in
      let by : (j : ℕ) → 1 ≤ j → h.0 t j ≡ settled_date f t j = λ j one. only_least net (listed_releases net) h.0 form.0 h.1 form.1 t j row.in_range one ∙ sym (same j one) in (
        late_alike h.0 (settled_date f) r k due least (by k h.2.late.from_one) h.2.late,
        λ j d y l close sooner. none_near h.0 r w.past w.turn k due least h.2 j d y l close (late_alike (settled_date f) h.0 r j d y (sym (by j sooner.from_one)) sooner),
      )
