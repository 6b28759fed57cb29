-- What tests of numbers tell, and numbers that are not 0.
use Rattle.std.proofs.Common.{◌≡◌, arith, ℕ, zero, suc, ◌*◌, ◌≤◌, refl, true, eqb}
use Rattle.std.specs.Prelude.{◌==◌}
use Rattle.std.proofs.lemmas.Bool.Decides.{nat_tests}

-- the test whether a number is 0 tells that it is
pub zero_test : (n : ℕ) → n ≡ 0 → eqb n 0 ≡ true
zero_test n h = grind (arith, nat_tests)

-- numbers that the test finds equal are equal
pub same_number : (a b : ℕ) → (a == b) ≡ true → a ≡ b
same_number a b h = grind (arith, nat_tests)

-- a number that is not 0 is at least 1
pub some_of : (n : ℕ) → (n ≡ 0 → ⊥) → 1 ≤ n
some_of zero h = absurd (h refl)
some_of (suc n) h = omega arith

-- where a multiple is at least 1, so is how often it was taken
pub some_times : (x m q : ℕ) → 1 ≤ x → x ≡ q * m → 1 ≤ q
some_times x m zero l e = absurd (omega arith)
some_times x m (suc q) l e = omega arith
