-- The function of a form, functions that repeat, lists of first values, and tests of them.
use Rattle.std.proofs.Common.{◌≡◌, refl, ap, arith, ℕ, ℤ, zero, suc, ◌+◌, ◌*◌, ◌-◌, ◌/◌, ◌%◌, ◌≤◌, ◌<◌, ◌+ℤ◌, ◌-ℤ◌, sym, ◌∙◌, ⊎_elim, Bool, true, false, cond, ltb, ◌&&◌, List, [], ◌∷◌, length, get_or}
use Rattle.std.proofs.lemmas.Int.{ints}
use Rattle.std.proofs.lemmas.Bool.{cases_lt}
use Rattle.std.proofs.lemmas.Bool.Decides.{nat_tests}
use Rattle.std.proofs.lemmas.Nat.{div-mul-add, mod-mul-add, mod_below, div-add-mod'}
use Rattle.std.proofs.Math.Nat.{eq-or-lt_of_le, le-mul_of_pos_right}
use Rattle.dioid.specs.declared.dates.Date.{Date}
use Rattle.dioid.specs.declared.dates.Date.TheVariants.{Early, At, Never}
use Rattle.dioid.specs.Dates.{move}
use Rattle.dioid.proofs.AtMost.{le_is, le_trans, le_early, never_le}
use Rattle.dioid.proofs.Moves.{move_zero, move_move, move_injective, moved_to_never, move_swap}
use Rattle.series_laws.specs.Periodic.{Rising, Repeats, times}
use Rattle.series_laws.proofs.Repeating.{repeats_times, repeats_is, by_steps}
use Rattle.series_laws.specs.SeriesForms.{Form, size_of, repeat_start, value_at, HasValues, date_eqb, gap, table, repeats_test, first_holding}

-- ---- the function of a form

pub value_in : (f : Form) (k : ℕ) → k < size_of f → value_at f k ≡ get_or f.values k Early
value_in f k h = let e : ltb k (size_of f) ≡ true = grind (arith, nat_tests) in rw e refl

pub value_past : (f : Form) (k : ℕ) → size_of f ≤ k → value_at f k ≡ move (times ((k - repeat_start f) / f.period) f.step) (get_or f.values (repeat_start f + (k - repeat_start f) % f.period) Early)
value_past f k h = let e : ltb k (size_of f) ≡ false = grind (arith, nat_tests) in rw e refl

pub no_turns : (m n r : ℕ) → m * n + r < n → m ≡ 0
no_turns zero n r h = refl
no_turns (suc m) n r h = absurd (omega arith)

-- r past the start and m periods
pub value_placed : (f : Form) → 0 < f.period → f.period ≤ size_of f → (m r k : ℕ) → r < f.period → k ≡ repeat_start f + (m * f.period + r)
    → value_at f k ≡ move (times m f.step) (get_or f.values (repeat_start f + r) Early)
value_placed f pos_n fits m r k low e =
    let d : k - repeat_start f ≡ m * f.period + r = omega arith in
    let q : (k - repeat_start f) / f.period ≡ m = ap (λ (z : ℕ). z / f.period) d ∙ div-mul-add m f.period r low in
    let t : (k - repeat_start f) % f.period ≡ r = ap (λ (z : ℕ). z % f.period) d ∙ mod-mul-add m f.period r low in
    ⊎_elim
    (λ short.
    let none : m ≡ 0 = no_turns m f.period r (omega arith) in
    let here : k ≡ repeat_start f + r = omega (arith, ap (λ (z : ℕ). z * f.period) none) in
    value_in f k short ∙ ap (λ (z : ℕ). get_or f.values z Early) here ∙ sym (move_zero (get_or f.values (repeat_start f + r) Early))
    ∙ ap (λ (z : ℕ). move (times z f.step) (get_or f.values (repeat_start f + r) Early)) (sym none))
    (λ long. value_past f k long ∙ ap (λ (z : ℕ). move (times z f.step)
    (get_or f.values (repeat_start f + (k - repeat_start f) % f.period) Early)) q
    ∙ ap (λ (z : ℕ). move (times m f.step) (get_or f.values (repeat_start f + z) Early)) t)
    (cases_lt k (size_of f))

pub value_repeats : (f : Form) → 0 < f.period → f.period ≤ size_of f → Repeats (value_at f) (repeat_start f) f.period f.step
value_repeats f pos_n fits = record {
  at = λ k w.
      let m : ℕ = (k - repeat_start f) / f.period in
      let r : ℕ = (k - repeat_start f) % f.period in
      let low : r < f.period = mod_below (k - repeat_start f) f.period pos_n in
      let d : m * f.period + r ≡ k - repeat_start f = div-add-mod' (k - repeat_start f) f.period in
      value_placed f pos_n fits (suc m) r (k + f.period) low (omega arith)
      ∙ sym (move_move (times m f.step) f.step (get_or f.values (repeat_start f + r) Early))
      ∙ ap (move f.step) (sym (value_placed f pos_n fits m r k low (omega arith)));
}

-- ---- dates

pub eqb_sound : (a b : Date) → date_eqb a b ≡ true → a ≡ b
eqb_sound Early Early h = refl
eqb_sound Early (At t) h = cc
eqb_sound Early Never h = cc
eqb_sound (At s) Early h = cc
eqb_sound (At s) (At t) h = ap At (grind (arith, ints))
eqb_sound (At s) Never h = cc
eqb_sound Never Early h = cc
eqb_sound Never (At t) h = cc
eqb_sound Never Never h = refl

pub eqb_same : (a : Date) → date_eqb a a ≡ true
eqb_same Early = refl
eqb_same (At s) = grind (arith, ints)
eqb_same Never = refl

pub eqb_complete : (a b : Date) → a ≡ b → date_eqb a b ≡ true
eqb_complete a b e = rw e (eqb_same b)

-- ---- functions that repeat

pub pulled_back : (f : ℕ → Date) (p n q m : ℕ) (x y : ℤ) → 0 < n → Repeats f p n x → Repeats f q m y → Repeats f p m y
pulled_back f p n q m x y pos_n a b = record {
  at = λ k w.
      let long : Repeats f p (q * n) (times q x) = repeats_times q a in
      let far : q ≤ k + q * n = omega (arith, le-mul_of_pos_right q pos_n) in
      move_injective (times q x) (f (k + m)) (move y (f k))
      (sym (long.at (k + m) (omega arith)) ∙ ap f (omega arith) ∙ b.at (k + q * n) far ∙ ap (move y) (long.at k w) ∙ move_swap y (times q x) (f k));
}

pub early_all : (f : ℕ → Date) (q n p : ℕ) (x : ℤ) → Rising f → 0 < n → Repeats f q n x → q ≤ p → f p ≡ Early → (k : ℕ) → f k ≡ Early
early_all f q n p x up pos_n a h e k =
    let long : Repeats f q (k * n) (times k x) = repeats_times k a in
    let far : k ≤ p + k * n = omega (arith, le-mul_of_pos_right k pos_n) in
    le_early (le_trans (up.rises k (p + k * n) far) (le_is (long.at p h ∙ ap (move (times k x)) e)))

pub step_is_gap : (f : ℕ → Date) (q n p : ℕ) (x : ℤ) → Rising f → 0 < n → Repeats f q n x → q ≤ p → Repeats f q n (gap (f p) (f (p + n)))
step_is_gap f q n p x up pos_n a h = by_value (f p) refl where
  by_value : (d : Date) → f p ≡ d → Repeats f q n (gap (f p) (f (p + n)))
  by_value Early e = let all = early_all f q n p x up pos_n a h e in record { at = λ k w. all (k + n) ∙ ap (move (gap (f p) (f (p + n)))) (sym (all k)) }
  by_value (At v) e =
      let next : f (p + n) ≡ At (v +ℤ x) = a.at p h ∙ ap (move x) e in
      let g : gap (f p) (f (p + n)) ≡ x = ap (λ z. gap z (f (p + n))) e ∙ ap (gap (At v)) next ∙ (let u : (v +ℤ x) -ℤ v ≡ x = omega (arith, ints) in u) in
      repeats_is refl (sym g) a
  by_value Never e = record { at = λ k w. all_never (k + n) (omega arith) ∙ ap (move (gap (f p) (f (p + n)))) (sym (all_never k w)) } where
    all_never : (k : ℕ) → q ≤ k → f k ≡ Never
    all_never k w =
        let long : Repeats f q (p * n) (times p x) = repeats_times p a in
        let far : p ≤ k + p * n = omega (arith, le-mul_of_pos_right p pos_n) in
        moved_to_never (times p x) (f k) (sym (long.at k w) ∙ never_le (le_trans (le_is (sym e)) (up.rises p (k + p * n) far)))

-- ---- lists of first values

pub table_length : (f : ℕ → Date) (n : ℕ) → length (table f n) ≡ n
table_length f zero = refl
table_length f (suc n) = let e : length (table (λ i. f (suc i)) n) ≡ n = table_length (λ i. f (suc i)) n in omega arith

pub table_at : (f : ℕ → Date) (n k : ℕ) → k < n → get_or (table f n) k Early ≡ f k
table_at f zero k h = absurd (omega arith)
table_at f (suc n) zero h = refl
table_at f (suc n) (suc k) h = table_at (λ i. f (suc i)) n k (omega arith)

pub same_lists : (a b : List Date) → length a ≡ length b → ((k : ℕ) → k < length a → get_or a k Early ≡ get_or b k Early) → a ≡ b
same_lists [] [] e h = refl
same_lists [] (y ∷ b) e h = absurd (omega arith)
same_lists (x ∷ a) [] e h = absurd (omega arith)
same_lists (x ∷ a) (y ∷ b) e h =
    let first : x ≡ y = h 0 (omega arith) in
    let rest : a ≡ b = same_lists a b (omega arith) (λ k w. h (suc k) (omega arith)) in
    cc

-- the form of the first p + n values
pub form_values : (f : ℕ → Date) (p n : ℕ) (x : ℤ) → 0 < n → Repeats f p n x → HasValues (record { values = table f (p + n); period = n; step = x }) f
form_values f p n x pos_n a =
    let g : Form = record { values = table f (p + n); period = n; step = x } in
    let long : length (table f (p + n)) ≡ p + n = table_length f (p + n) in
    let start : repeat_start g ≡ p = omega arith in
    let again : Repeats (value_at g) (repeat_start g) n x = value_repeats g pos_n (omega arith) in
    let low : (k : ℕ) → k < p + n → value_at g k ≡ f k = λ k w. value_in g k (omega arith) ∙ table_at f (p + n) k w in
    λ k. ⊎_elim
    (λ w. low k w)
    (λ w. by_steps (λ (j : ℕ). value_at g j ≡ f j) p n pos_n (λ j u v. low j v) (λ j u e. again.at j (omega arith) ∙ ap (move x) e ∙ sym (a.at j u)) k (omega arith))
    (cases_lt k (p + n))

-- ---- tests

pub test_sound : (f : ℕ → Date) (n : ℕ) (x : ℤ) (p m : ℕ) → repeats_test f n x p m ≡ true → (k : ℕ) → p ≤ k → k < p + m → f (k + n) ≡ move x (f k)
test_sound f n x p zero h k u v = absurd (omega arith)
test_sound f n x p (suc m) h k u v =
    let both : (repeats_test f n x p m ≡ true) × (date_eqb (f (p + m + n)) (move x (f (p + m))) ≡ true) = and_parts (repeats_test f n x p m) (date_eqb (f (p + m + n)) (move x (f (p + m)))) h in
    ⊎_elim
    (λ e. let here : k ≡ p + m = omega arith in
    ap (λ (z : ℕ). f (z + n)) here ∙ eqb_sound (f (p + m + n)) (move x (f (p + m))) both.1 ∙ ap (λ (z : ℕ). move x (f z)) (sym here))
    (λ l. test_sound f n x p m both.0 k u (omega arith))
    (eq-or-lt_of_le {n = suc k} {m = p + suc m} (omega arith)) where
      and_parts : (a b : Bool) → a && b ≡ true → (a ≡ true) × (b ≡ true)
      and_parts true true e = (refl, refl)
      and_parts true false e = (cc, cc)
      and_parts false b e = (cc, cc)

pub test_complete : (f : ℕ → Date) (n : ℕ) (x : ℤ) (p m : ℕ) → ((k : ℕ) → p ≤ k → k < p + m → f (k + n) ≡ move x (f k)) → repeats_test f n x p m ≡ true
test_complete f n x p zero h = refl
test_complete f n x p (suc m) h =
    let before : repeats_test f n x p m ≡ true = test_complete f n x p m (λ k u v. h k u (omega arith)) in
    let here : date_eqb (f (p + m + n)) (move x (f (p + m))) ≡ true = eqb_complete (f (p + m + n)) (move x (f (p + m))) (h (p + m) (omega arith) (omega arith)) in
    rw (before, here) refl

pub test_fails : (f : ℕ → Date) (n : ℕ) (x : ℤ) (p m i : ℕ) → i < m → date_eqb (f (p + i + n)) (move x (f (p + i))) ≡ false → repeats_test f n x p m ≡ false
test_fails f n x p m i w h = by_bool (repeats_test f n x p m) refl where
  by_bool : (b : Bool) → repeats_test f n x p m ≡ b → repeats_test f n x p m ≡ false
  by_bool true e = absurd (let c : date_eqb (f (p + i + n)) (move x (f (p + i))) ≡ true =
      eqb_complete (f (p + i + n)) (move x (f (p + i))) (test_sound f n x p m e (p + i) (omega arith) (omega arith)) in let d : true ≡ false = sym c ∙ h in cc)
  by_bool false e = e

pub first_ge : (t : ℕ → Bool) (a m : ℕ) → a ≤ first_holding t a m
first_ge t a zero = omega arith
first_ge t a (suc m) = by_test (t a) refl (first_ge t (suc a) m) where
  by_test : (b : Bool) → t a ≡ b → suc a ≤ first_holding t (suc a) m → a ≤ cond (t a) a (first_holding t (suc a) m)
  by_test true e h = rw e (omega arith)
  by_test false e h = rw e (omega arith)

pub first_le : (t : ℕ → Bool) (a m j : ℕ) → a ≤ j → t j ≡ true → first_holding t a m ≤ j
first_le t a zero j h e = h
first_le t a (suc m) j h e = by_test (t a) refl (λ w. first_le t (suc a) m j w e) where
  by_test : (b : Bool) → t a ≡ b → (suc a ≤ j → first_holding t (suc a) m ≤ j) → cond (t a) a (first_holding t (suc a) m) ≤ j
  by_test true g next = rw g h
  by_test false g next = ⊎_elim
      (λ same. absurd (let c : t j ≡ false = ap t (sym same) ∙ g in cc))
      (λ l. rw g (next (omega arith)))
      (eq-or-lt_of_le {n = a} {m = j} h)

pub first_holds : (t : ℕ → Bool) (a m : ℕ) → t (a + m) ≡ true → t (first_holding t a m) ≡ true
first_holds t a zero h = (let e : a + 0 ≡ a = omega arith in ap t (sym e)) ∙ h
first_holds t a (suc m) h = by_test (t a) refl (first_holds t (suc a) m ((let e : suc a + m ≡ a + suc m = omega arith in ap t e) ∙ h)) where
  by_test : (b : Bool) → t a ≡ b → t (first_holding t (suc a) m) ≡ true → t (cond (t a) a (first_holding t (suc a) m)) ≡ true
  by_test true g next = rw g g
  by_test false g next = rw g next

pub first_next : (t : ℕ → Bool) (a m : ℕ) → 0 < m → t a ≡ false → first_holding t a m ≡ first_holding t (a + 1) (m - 1)
first_next t a zero h e = absurd (omega arith)
first_next t a (suc m) h e = let n : a + 1 ≡ suc a = omega arith in let k : suc m - 1 ≡ m = omega arith in rw (e, n, k) refl

pub first_found : (t : ℕ → Bool) (a m : ℕ) → t a ≡ true → first_holding t a m ≡ a
first_found t a zero e = refl
first_found t a (suc m) e = rw e refl
