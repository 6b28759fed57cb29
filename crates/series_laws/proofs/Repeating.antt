-- Functions that never fall, and that repeat from a shift on.
use Rattle.std.proofs.Common.{◌≡◌, ap, arith, ℕ, ℤ, zero, suc, ◌+◌, ◌*◌, ◌-◌, ◌≤◌, ◌<◌, ◌+ℤ◌, ◌∙◌, subst, ⊎_elim}
use Rattle.std.proofs.lemmas.Int.{ints}
use Rattle.std.proofs.lemmas.Bool.{cases_lt}
use Rattle.dioid.specs.declared.dates.Date.{Date}
use Rattle.dioid.specs.Dates.{move}
use Rattle.dioid.specs.DateOrder.{Le}
use Rattle.dioid.proofs.AtMost.{le_is, le_trans}
use Rattle.dioid.proofs.Moves.{move_zero, move_move}
use Rattle.series_laws.specs.Periodic.{Rising, Repeats, times}

-- a function that does not fall from one shift to the next never falls
pub rising_by_one : (f : ℕ → Date) → ((k : ℕ) → Le (f k) (f (k + 1))) → Rising f
rising_by_one f h = record {
  rises = λ j k w. let e : j + (k - j) ≡ k = omega arith in le_trans (on j (k - j)) (le_is (ap f e));
} where
  on : (j m : ℕ) → Le (f j) (f (j + m))
  on j zero = le_is (ap f (omega arith))
  on j (suc m) = le_trans (on j m) (le_trans (h (j + m)) (le_is (ap f (omega arith))))

pub repeats_later : {f : ℕ → Date} {p n : ℕ} {x : ℤ} (q : ℕ) → p ≤ q → Repeats f p n x → Repeats f q n x
repeats_later q h r = record { at = λ k w. r.at k (omega arith) }

pub repeats_from : {f : ℕ → Date} {p n : ℕ} {x : ℤ} → Repeats f p n x → (k : ℕ) → p + n ≤ k → f k ≡ move x (f (k - n))
repeats_from {f} {p} {n} {x} r k h = ap f (omega arith) ∙ r.at (k - n) (omega arith)

pub repeats_times : {f : ℕ → Date} {p n : ℕ} {x : ℤ} (m : ℕ) → Repeats f p n x → Repeats f p (m * n) (times m x)
repeats_times {f} {p} {n} {x} zero r = record { at = λ k w. rw move_zero (ap f (omega arith)) }
repeats_times {f} {p} {n} {x} (suc m) r = record {
  at = λ k w.
      let before : Repeats f p (m * n) (times m x) = repeats_times m r in
      ap f (omega arith) ∙ r.at (k + m * n) (omega arith) ∙ ap (move x) (before.at k w) ∙ move_move (times m x) x (f k);
}

-- an equal period and step
pub repeats_is : {f : ℕ → Date} {p n m : ℕ} {x y : ℤ} → n ≡ m → x ≡ y → Repeats f p n x → Repeats f p m y
repeats_is {f} {p} {n} {m} {x} {y} e g r = record { at = λ k w. rw (← e, ← g) (r.at k w) }

pub times_add : (m k : ℕ) (x : ℤ) → times (m + k) x ≡ times m x +ℤ times k x
times_add zero k x =
    let n : 0 + k ≡ k = omega arith in
    let e : times (0 + k) x ≡ times k x = ap (λ (z : ℕ). times z x) n in
    rw e (omega (arith, ints))
times_add (suc m) k x =
    let n : suc m + k ≡ suc (m + k) = omega arith in
    let e : times (suc m + k) x ≡ times (suc (m + k)) x = ap (λ (z : ℕ). times z x) n in
    let before : times (m + k) x ≡ times m x +ℤ times k x = times_add m k x in
    rw e (omega (arith, ints))

-- what holds on one period and is kept by a step holds from there on
pub by_steps : (P : ℕ → Type 0) (p l : ℕ) → 0 < l → ((k : ℕ) → p ≤ k → k < p + l → P k) → ((k : ℕ) → p ≤ k → P k → P (k + l)) → (k : ℕ) → p ≤ k → P k
by_steps P p l pos_l base step k h = by_steps_below k k (omega arith) h where
  by_steps_below : (n j : ℕ) → j ≤ n → p ≤ j → P j
  by_steps_below zero j w u = base j u (omega arith)
  by_steps_below (suc n) j w u = ⊎_elim
      (λ low. base j u low)
      (λ high. let e : (j - l) + l ≡ j = omega arith in subst P e (step (j - l) (omega arith) (by_steps_below n (j - l) (omega arith) (omega arith))))
      (cases_lt j (p + l))
