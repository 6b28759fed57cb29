-- Products of whole numbers by numbers, for what dates are worth at a pace.
use Rattle.std.proofs.Common.{ℕ, ℤ, zero, suc, pos, ◌+◌, ◌*◌, ◌≤◌, ◌≡◌, ◌+ℤ◌, sym, ap, ◌∙◌, arith}
use Rattle.std.specs.Prelude.{◌*ℤ◌, ◌≤ℤ◌, ◌<ℤ◌}
use lib.IntN.{suc_ℤ-*ℤ, zero-*ℤ, pos-*ℤ-pos}
use Rattle.std.proofs.lemmas.Int.{ints, by_lt_z}
use Rattle.dioid.specs.declared.dates.Date.{Date}
use Rattle.dioid.specs.declared.dates.Date.TheVariants.{Early, At, Never}

-- the number of a date
pub value_of : Date → ℤ
value_of Early = pos 0
value_of (At z) = z
value_of Never = pos 0

pub value_is : (d : Date) (z : ℤ) → d ≡ At z → d ≡ At (value_of d)
unfolding value_of
value_is d z e = e ∙ ap At (sym (ap value_of e))

one_more : (n : ℕ) (z : ℤ) → pos (suc n) *ℤ z ≡ (pos n *ℤ z) +ℤ z
one_more n z = suc_ℤ-*ℤ (pos n) z

pub times_sum : (n : ℕ) (a b : ℤ) → pos n *ℤ (a +ℤ b) ≡ (pos n *ℤ a) +ℤ (pos n *ℤ b)
times_sum zero a b = rw (zero-*ℤ (a +ℤ b), zero-*ℤ a, zero-*ℤ b) (omega (arith, ints))
times_sum (suc n) a b =
    let before = times_sum n a b in
    rw (one_more n (a +ℤ b), one_more n a, one_more n b) (omega (arith, ints, before))

pub sum_times : (m n : ℕ) (z : ℤ) → pos (m + n) *ℤ z ≡ (pos m *ℤ z) +ℤ (pos n *ℤ z)
sum_times zero n z =
    let is : 0 + n ≡ n = omega arith in
    rw (is, zero-*ℤ z) (omega (arith, ints))
sum_times (suc m) n z =
    let is : suc m + n ≡ suc (m + n) = omega arith in
    let before = sum_times m n z in
    rw (is, one_more (m + n) z, one_more m z) (omega (arith, ints, before))

pub times_rise : (n : ℕ) (a b : ℤ) → a ≤ℤ b → (pos n *ℤ a) ≤ℤ (pos n *ℤ b)
times_rise zero a b l = rw (zero-*ℤ a, zero-*ℤ b) (omega (arith, ints))
times_rise (suc n) a b l =
    let before = times_rise n a b l in
    rw (one_more n a, one_more n b) (omega (arith, ints, before, l))

pub cancel : (n : ℕ) (a b : ℤ) → 1 ≤ n → (pos n *ℤ a) ≤ℤ (pos n *ℤ b) → a ≤ℤ b
cancel n a b some h =
    by_lt_z b a
    (λ (r : b <ℤ a).
    let up = times_rise n (b +ℤ pos 1) a (omega (arith, ints, r)) in
    let parts = times_sum n b (pos 1) in
    let one : pos n *ℤ pos 1 ≡ pos (n * 1) = pos-*ℤ-pos n 1 in
    let same : n * 1 ≡ n = omega arith in
    absurd (omega (arith, ints, up, parts, one, same, some, h)))
    (λ (r : a ≤ℤ b). r)
