-- Where the sum and the minimum of two functions repeat.
use Rattle.std.proofs.Common.{◌≡◌, ap, arith, ℕ, ℤ, pos, zero, suc, ◌+◌, ◌*◌, ◌-◌, ◌≤◌, ◌<◌, ◌+ℤ◌, sym, ◌∙◌}
use Rattle.std.specs.Prelude.{◌≤ℤ◌}
use Rattle.std.proofs.lemmas.Int.{ints}
use Rattle.dioid.specs.Dates.{later_of, earlier_of, move}
use Rattle.dioid.specs.declared.dates.Date.{Date}
use Rattle.dioid.specs.DateOrder.{Le}
use Rattle.dioid.proofs.AtMost.{le_refl, le_is, le_trans, le_antisym, le_later_left, later_le, earlier_le_right, le_earlier, move_le, move_further}
use Rattle.dioid.proofs.Moves.{move_zero, move_move, later_move, earlier_move}
use Rattle.series_laws.specs.Periodic.{Repeats, times}
use Rattle.series_laws.proofs.Repeating.{repeats_from, by_steps}
use Rattle.series_laws.specs.Pointwise.{sum_at, least_at}

pub sum_repeats_equal : (s t : ℕ → Date) (p n : ℕ) (x : ℤ) → Repeats s p n x → Repeats t p n x → Repeats (sum_at s t) p n x
sum_repeats_equal s t p n x a b = record { at = λ k w. ap (λ z. later_of z (t (k + n))) (a.at k w) ∙ ap (later_of (move x (s k))) (b.at k w) ∙ later_move x (s k) (t k) }

pub least_repeats_equal : (s t : ℕ → Date) (p n : ℕ) (x : ℤ) → Repeats s p n x → Repeats t p n x → Repeats (least_at s t) p n x
least_repeats_equal s t p n x a b = record { at = λ k w. ap (λ z. earlier_of z (t (k + n))) (a.at k w) ∙ ap (earlier_of (move x (s k))) (b.at k w) ∙ earlier_move x (s k) (t k) }

-- ---- unequal slopes

-- each step makes up for the gain
gains : (s t : ℕ → Date) (p l : ℕ) (x y g : ℤ) → Repeats s p l x → Repeats t p l y → y +ℤ g ≡ x
    → (m : ℕ) (q : ℕ) → p ≤ q → ((k : ℕ) → q ≤ k → Le (t k) (move (times m g) (s k))) → (k : ℕ) → q + m * l ≤ k → Le (t k) (s k)
gains s t p l x y g a b e zero q w h k u = let f : Le (t k) (move (pos 0) (s k)) = h k (omega arith) in rw (move_zero (s k)) at f
gains s t p l x y g a b e (suc m) q w h k u = gains s t p l x y g a b e m (q + l) (omega arith)
    (λ j v. le_trans (le_is (repeats_from b j (omega arith))) (le_trans (move_le y (h (j - l) (omega arith)))
    (le_is (move_move (times (suc m) g) y (s (j - l)) ∙ ap (λ (z : ℤ). move z (s (j - l))) (omega (arith, ints))
    ∙ sym (move_move x (times m g) (s (j - l))) ∙ ap (move (times m g)) (sym (repeats_from a j (omega arith)))))))
    k (omega arith)

-- The lead of t on one period is at most m gains, so s is the greater one m periods later.
pub crossed : (s t : ℕ → Date) (p l m : ℕ) (x y g : ℤ) → Repeats s p l x → Repeats t p l y → 0 < l → y +ℤ g ≡ x → pos 0 ≤ℤ g
    → ((k : ℕ) → p ≤ k → k < p + l → Le (t k) (move (times m g) (s k)))
    → (k : ℕ) → p + m * l ≤ k → Le (t k) (s k)
crossed s t p l m x y g a b long e up lead k u =
    gains s t p l x y g a b e m p (omega arith)
    (by_steps (λ j. Le (t j) (move (times m g) (s j))) p l long lead
    (λ j w h. le_trans (le_is (b.at j w)) (le_trans (move_le y h)
    (le_trans (le_is (move_move (times m g) y (s j)))
    (le_trans (move_further (s j) (let f : (times m g +ℤ y) ≤ℤ (x +ℤ times m g) = omega (arith, ints) in f))
    (le_is (sym (move_move x (times m g) (s j)) ∙ ap (move (times m g)) (sym (a.at j w)))))))))
    k u

pub later_is_left : {a b : Date} → Le b a → later_of a b ≡ a
later_is_left {a} {b} h = le_antisym (later_le (le_refl a) h) (le_later_left a b)

pub earlier_is_right : {a b : Date} → Le b a → earlier_of a b ≡ b
earlier_is_right {a} {b} h = le_antisym (earlier_le_right a b) (le_earlier h (le_refl b))

-- where s is the greater one from q on, the sum goes on as s does, and the minimum as t does
pub sum_repeats_left : (s t : ℕ → Date) (q n : ℕ) (x : ℤ) → ((k : ℕ) → q ≤ k → Le (t k) (s k)) → Repeats s q n x → Repeats (sum_at s t) q n x
sum_repeats_left s t q n x h a = record { at = λ k w. later_is_left (h (k + n) (omega arith)) ∙ a.at k w ∙ ap (move x) (sym (later_is_left (h k w))) }

pub least_repeats_right : (s t : ℕ → Date) (q n : ℕ) (x : ℤ) → ((k : ℕ) → q ≤ k → Le (t k) (s k)) → Repeats t q n x → Repeats (least_at s t) q n x
least_repeats_right s t q n x h a = record { at = λ k w. earlier_is_right (h (k + n) (omega arith)) ∙ a.at k w ∙ ap (move x) (sym (earlier_is_right (h k w))) }
