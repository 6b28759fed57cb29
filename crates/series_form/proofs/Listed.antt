-- Values of the list of a form, and those of one period past it, with numbers of any size.
use Rattle.std.proofs.Common.{◌≡◌, refl, ap, sym, ◌∙◌, subst, arith, ℕ, ℤ, pos, negsuc, zero, suc, ◌+◌, ◌-◌, ◌≤◌, ◌<◌, ◌+ℤ◌, ◌-ℤ◌, ◌≤ℤ◌, ◌⊎◌, inl}
use Rattle.std.proofs.Common.{inr, ⊎_elim, List, length, get_or, FitsSigned, Bool, true, false}
use Rattle.std.specs.Int.{w128}
use Rattle.std.proofs.lemmas.Int.{ints}
use Rattle.dioid.specs.declared.dates.Date.{Date}
use Rattle.dioid.specs.declared.dates.Date.TheVariants.{Early, At, Never}
use Rattle.dioid.specs.Dates.{move}
use Rattle.dioid.specs.DateOrder.{Le}
use Rattle.std.proofs.lemmas.Bool.{cases_lt}
use Rattle.dioid.proofs.AtMost.{le_is, le_trans, move_le}
use Rattle.dioid.proofs.Moves.{move_move, move_between}
use Rattle.series_laws.specs.SeriesForms.{form_with, gap, date_eqb}
use Rattle.series_laws.specs.Periodic.{Rising}
use Rattle.series_laws.proofs.FormValues.{value_in, value_repeats, eqb_sound, eqb_complete}
use Rattle.series_laws.proofs.Repeating.{rising_by_one}
use Rattle.series_form.proofs.FirstPart.{V}

-- what lies between 0 and a number that fits
between_fits : (x y : ℤ) → pos 0 ≤ℤ x → x ≤ℤ y → FitsSigned w128 y → FitsSigned w128 x
between_fits (pos m) (pos n) low high f = record { sfits = omega (arith, ints, f.sfits) }
between_fits (pos m) (negsuc n) low high f = absurd (omega (arith, ints))
between_fits (negsuc m) y low high f = absurd (omega (arith, ints))

gap_within : (a b : Date) (x : ℤ) → Le a b → Le b (move x a) → (gap a b ≡ pos 0) ⊎ ((pos 0 ≤ℤ gap a b) × (gap a b ≤ℤ x))
gap_within Early b x h k = inl refl
gap_within (At s) Early x h k = inl refl
gap_within (At s) (At t) x h k =
    let low : s ≤ℤ t = h.holds in
    let high : t ≤ℤ (s +ℤ x) = k.holds in
    inr (omega (arith, ints), omega (arith, ints))
gap_within (At s) Never x h k = inl refl
gap_within Never b x h k = inl refl

gap_fits : (a b : Date) (x : ℤ) → Le a b → Le b (move x a) → FitsSigned w128 x → FitsSigned w128 (gap a b) × FitsSigned w128 (x -ℤ gap a b)
gap_fits a b x h k f = ⊎_elim
    (λ e.
    let none : FitsSigned w128 (pos 0) = record { sfits = omega arith } in
    let whole : x -ℤ gap a b ≡ x = ap (λ (z : ℤ). x -ℤ z) e ∙ omega (arith, ints) in
    (subst (λ (z : ℤ). FitsSigned w128 z) (sym e) none, subst (λ (z : ℤ). FitsSigned w128 z) (sym whole) f))
    (λ w.
    let low : pos 0 ≤ℤ gap a b = w.0 in
    let high : gap a b ≤ℤ x = w.1 in
    (between_fits (gap a b) x low high f, between_fits (x -ℤ gap a b) x (omega (arith, ints)) (omega (arith, ints)) f))
    (gap_within a b x h k)

module _ (l : List Date) (n : ℕ) (x : ℤ) (pos_n : 0 < n) (fits : n ≤ length l) where
  -- a period past the list
  pub past : (k : ℕ) → length l ≤ k → k < length l + n → V l n x k ≡ move x (get_or l (k - n) Early)
  past k low high =
      let e : k - n + n ≡ k = omega arith in
      ap (V l n x) (sym e) ∙ (value_repeats (form_with l n x) pos_n fits).at (k - n) (omega arith) ∙ ap (move x) (value_in (form_with l n x) (k - n) (omega arith))

  -- what the function gains over at most a period fits, and so does the rest of the step
  pub gain_fits : (turn : ℕ) → turn ≤ n → Rising (V l n x) → FitsSigned w128 x
      → FitsSigned w128 (gap (V l n x (length l - n)) (V l n x (length l - n + turn))) × FitsSigned w128 (x -ℤ gap (V l n x (length l - n)) (V l n x (length l - n + turn)))
  gain_fits turn w up f = gap_fits (V l n x (length l - n)) (V l n x (length l - n + turn)) x
      (up.rises (length l - n) (length l - n + turn) (omega arith))
      (le_trans (up.rises (length l - n + turn) (length l - n + n) (omega arith)) (le_is ((value_repeats (form_with l n x) pos_n fits).at (length l - n) (omega arith))))
      f

  -- over a period it gains the step
  pub whole_gain : (t : ℤ) → get_or l (length l - n) Early ≡ At t → x ≡ gap (V l n x (length l - n)) (V l n x (length l - n + n))
  whole_gain t e =
      let here : V l n x (length l - n) ≡ At t = value_in (form_with l n x) (length l - n) (omega arith) ∙ e in
      let there : V l n x (length l - n + n) ≡ At (t +ℤ x) = (value_repeats (form_with l n x) pos_n fits).at (length l - n) (omega arith) ∙ ap (move x) here in
      let same : x ≡ (t +ℤ x) -ℤ t = omega (arith, ints) in
      same ∙ ap (λ (z : Date). gap (At t) z) (sym there) ∙ ap (λ (z : Date). gap z (V l n x (length l - n + n))) (sym here)

same_test : (p q : Bool) → (p ≡ true → q ≡ true) → (q ≡ true → p ≡ true) → p ≡ q
same_test true q f g = sym (f refl)
same_test false true f g = g refl
same_test false false f g = refl

-- whether a move by the whole is one by a part is whether it is one by the rest
pub moved_over : (x j : ℤ) (a b : Date) → date_eqb b (move (x -ℤ j) a) ≡ date_eqb (move x a) (move j b)
moved_over x j a b = same_test (date_eqb b (move (x -ℤ j) a)) (date_eqb (move x a) (move j b))
    (λ h.
    let k : (x -ℤ j) +ℤ j ≡ x = omega (arith, ints) in
    eqb_complete (move x a) (move j b) (sym (ap (move j) (eqb_sound b (move (x -ℤ j) a) h) ∙ move_move (x -ℤ j) j a ∙ ap (λ (z : ℤ). move z a) k)))
    (λ h. eqb_complete b (move (x -ℤ j) a) (move_between j x b a (sym (eqb_sound (move x a) (move j b) h))))

-- the function of a list that never falls, nor at the end of its first period, never falls
module _ (l : List Date) (n : ℕ) (x : ℤ) (pos_n : 0 < n) (fits : n ≤ length l)
    (up : (k : ℕ) → k + 1 < length l → Le (get_or l k Early) (get_or l (k + 1) Early))
    (again : Le (get_or l (length l - 1) Early) (move x (get_or l (length l - n) Early))) where
  ups : (m k : ℕ) → k < m → Le (V l n x k) (V l n x (k + 1))
  ups zero k w = absurd (omega arith)
  ups (suc m) k w = ⊎_elim
      (λ low. le_trans (le_is (value_in (form_with l n x) k (omega arith))) (le_trans (up k low) (le_is (sym (value_in (form_with l n x) (k + 1) low)))))
      (λ high. ⊎_elim
      (λ last.
      let e : k ≡ length l - 1 = omega arith in
      let f : k + 1 - n ≡ length l - n = omega arith in
      le_trans (le_is (value_in (form_with l n x) k last ∙ ap (λ (z : ℕ). get_or l z Early) e))
      (le_trans again (le_is (ap (λ (z : ℕ). move x (get_or l z Early)) (sym f) ∙ sym (past l n x pos_n fits (k + 1) high (omega arith))))))
      (λ further.
      let r = value_repeats (form_with l n x) pos_n fits in
      let e : k - n + n ≡ k = omega arith in
      let f : k - n + 1 + n ≡ k + 1 = omega arith in
      le_trans (le_is (ap (V l n x) (sym e) ∙ r.at (k - n) (omega arith)))
      (le_trans (move_le x (ups m (k - n) (omega arith))) (le_is (sym (r.at (k - n + 1) (omega arith)) ∙ ap (V l n x) f))))
      (cases_lt k (length l)))
      (cases_lt (k + 1) (length l))

  pub list_rises : Rising (V l n x)
  list_rises = rising_by_one (V l n x) (λ k. ups (k + 1) k (omega arith))
