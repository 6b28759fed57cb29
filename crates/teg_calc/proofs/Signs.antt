-- Which byte a sign is.
use Rattle.std.proofs.Common.{◌≡◌, refl, arith, ℕ, Bool, true, false}
use Rattle.std.specs.Prelude.{◌==◌}
use Rattle.std.proofs.lemmas.Bool.Decides.{nat_tests}
use Rattle.series_ops.proofs.number_laws_proofs.Numbers.{same_number}
use Rattle.teg_calc.specs.declared.bytes.Sign.{Sign}
use Rattle.teg_calc.specs.declared.bytes.Sign.TheVariants.{Blank, Open, Close, Comma, Plus, Dot, Other}
use Rattle.teg_calc.specs.Readers.{sign_of}

-- the byte of a sign; any other sign is no bracket
pub data IsSign (b : ℕ) : Sign → Type 0 where
  is_blank : b ≡ 32 → IsSign b Blank
  is_open : b ≡ 40 → IsSign b Open
  is_close : b ≡ 41 → IsSign b Close
  is_comma : b ≡ 44 → IsSign b Comma
  is_plus : b ≡ 43 → IsSign b Plus
  is_dot : b ≡ 46 → IsSign b Dot
  is_other : (b ≡ 40 → ⊥) → (b ≡ 41 → ⊥) → IsSign b Other

-- what follows from a test either way holds
pub decide : {P : Type 0} (test : Bool) → (test ≡ true → P) → (test ≡ false → P) → P
decide true yes_then no_then = yes_then refl
decide false yes_then no_then = no_then refl

not_eq : (b n : ℕ) → (b == n) ≡ false → b ≡ n → ⊥
not_eq b n h e = grind (arith, nat_tests)

pub sign_is : (b : ℕ) → IsSign b (sign_of b)
sign_is b =
    decide (b == 32) (λ e. rw e (is_blank (same_number b 32 e))) (λ blank.
    decide (b == 40) (λ e. rw (blank, e) (is_open (same_number b 40 e))) (λ opens.
    decide (b == 41) (λ e. rw (blank, opens, e) (is_close (same_number b 41 e))) (λ closes.
    decide (b == 44) (λ e. rw (blank, opens, closes, e) (is_comma (same_number b 44 e))) (λ comma.
    decide (b == 43) (λ e. rw (blank, opens, closes, comma, e) (is_plus (same_number b 43 e))) (λ plus.
    decide (b == 46) (λ e. rw (blank, opens, closes, comma, plus, e) (is_dot (same_number b 46 e))) (λ dot.
    rw (blank, opens, closes, comma, plus, dot) (is_other (not_eq b 40 opens) (not_eq b 41 closes))))))))
