-- Where the residual of a function by another repeats.
use Rattle.std.proofs.Common.{◌≡◌, ap, arith, ℕ, ℤ, pos, zero, suc, ◌+◌, ◌≤◌, ◌-ℤ◌, sym, ◌∙◌, subst, ⊎_elim}
use Rattle.std.specs.Prelude.{◌≤ℤ◌}
use Rattle.std.proofs.Math.Nat.{eq-or-lt_of_le}
use Rattle.std.proofs.lemmas.Int.{ints}
use Rattle.std.proofs.lemmas.Bool.{cases_lt}
use Rattle.dioid.specs.Dates.{earlier_of, date_left, move}
use Rattle.dioid.specs.declared.dates.Date.{Date}
use Rattle.dioid.specs.DateOrder.{Le}
use Rattle.dioid.proofs.AtMost.{le_is, le_trans, le_antisym, earlier_le_left, earlier_le_right, le_earlier, move_le, move_le_back, move_further}
use Rattle.dioid.proofs.Moves.{move_zero, move_back, left_move, left_of_move}
use Rattle.series_laws.specs.Periodic.{Repeats}
use Rattle.series_laws.proofs.Repeating.{by_steps}
use Rattle.series_laws.specs.Residual.{IsGreatestBelow, IsLeftAt, least_of_first}

pub one_greatest : (f : ℕ → Date) (x y : Date) → IsGreatestBelow f x → IsGreatestBelow f y → x ≡ y
one_greatest f x y a b = le_antisym (b.greatest x a.below) (a.greatest y b.below)

pub greatest_moved : (f g : ℕ → Date) (x : ℤ) (d : Date) → ((i : ℕ) → g i ≡ move x (f i)) → IsGreatestBelow f d → IsGreatestBelow g (move x d)
greatest_moved f g x d e a = record {
  below = λ i. le_trans (move_le x (a.below i)) (le_is (sym (e i)));
  greatest = λ y h. le_trans (le_is (sym (move_back x y))) (move_le x (a.greatest (move (pos 0 -ℤ x) y) (λ i. move_le_back x (le_trans (le_is (move_back x y)) (le_trans (h i) (le_is (e i)))))));
}

pub left_repeats : (s t left : ℕ → Date) (q n : ℕ) (x : ℤ) → ((k : ℕ) → IsLeftAt s t k (left k)) → Repeats t q n x → Repeats left q n x
left_repeats s t left q n x is b = record {
  at = λ k w.
      one_greatest (λ i. date_left (s i) (t ((k + n) + i))) (left (k + n)) (move x (left k)) (is (k + n))
      (greatest_moved (λ i. date_left (s i) (t (k + i))) (λ i. date_left (s i) (t ((k + n) + i))) x (left k)
      (λ i. ap (λ (z : ℕ). date_left (s i) (t z)) (omega arith) ∙ ap (date_left (s i)) (b.at (k + i) (omega arith)) ∙ left_move x (s i) (t (k + i)))
      (is k));
}

pub least_of_le : (f : ℕ → Date) (n j : ℕ) → j ≤ n → Le (least_of_first f n) (f j)
least_of_le f zero j h = le_is (ap f (omega arith))
least_of_le f (suc n) j h = ⊎_elim
    (λ q. let P : ℕ → Type 0 = λ k. Le (earlier_of (least_of_first f n) (f (suc n))) (f k) in subst P (sym q) (earlier_le_right (least_of_first f n) (f (suc n))))
    (λ l. le_trans (earlier_le_left (least_of_first f n) (f (suc n))) (least_of_le f n j (omega arith)))
    (eq-or-lt_of_le {n = j} {m = suc n} h)

pub le_least_of : (f : ℕ → Date) (n : ℕ) (c : Date) → ((j : ℕ) → j ≤ n → Le c (f j)) → Le c (least_of_first f n)
le_least_of f zero c h = h 0 (omega arith)
le_least_of f (suc n) c h = le_earlier (le_least_of f n c (λ j w. h j (omega arith))) (h (suc n) (omega arith))

-- where f never falls over l shifts from p on, the values below p + l decide
pub first_decide : (f : ℕ → Date) (p l : ℕ) → ((i : ℕ) → p ≤ i → Le (f i) (f (i + suc l))) → IsGreatestBelow f (least_of_first f (p + l))
first_decide f p l h = record {
  below = λ i. ⊎_elim
      (λ low. least_of_le f (p + l) i (omega arith))
      (λ high. by_steps (λ j. Le (least_of_first f (p + l)) (f j)) p (suc l) (omega arith) (λ j u v. least_of_le f (p + l) j (omega arith)) (λ j u v. le_trans v (h j u)) i high)
      (cases_lt i p);
  greatest = λ y g. le_least_of f (p + l) y (λ j _. g j);
}

-- the first slope at most the second
pub left_decided : (s t : ℕ → Date) (p l k : ℕ) (x y : ℤ) → Repeats s p (suc l) x → Repeats t p (suc l) y → x ≤ℤ y → IsLeftAt s t k (least_of_first (λ i. date_left (s i) (t (k + i))) (p + l))
left_decided s t p l k x y a b h = first_decide (λ i. date_left (s i) (t (k + i))) p l (λ i w.
    let d : Date = date_left (s i) (t (k + i)) in
    le_trans (le_is (sym (move_zero d)))
    (le_trans (move_further d (let f : pos 0 ≤ℤ (y -ℤ x) = omega (arith, ints) in f))
    (le_is (sym (left_of_move x y (s i) (t (k + i))) ∙ ap (λ z. date_left z (move y (t (k + i)))) (sym (a.at i w))
    ∙ ap (date_left (s (i + suc l))) (sym (b.at (k + i) (omega arith)) ∙ ap t (omega arith))))))
