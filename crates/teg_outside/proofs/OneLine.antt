-- Texts without a line feed.
use Rattle.std.proofs.Common.{ℕ, ◌+◌, ◌^◌, ◌<◌, List, [], ◌∷◌, ◌++◌, arith, refl}
use Rattle.std.specs.Fmt.{decimal}
use Rattle.std.proofs.lemmas.Fmt.{decimal_by_steps}
use Rattle.std.proofs.lemmas.Grind.{common_steps}
use Rattle.std.proofs.lemmas.List.Folds.{list_any-append}
use Rattle.teg_outside.specs.Monitors.{IsOneLine}

digit_one_line : (digit : ℕ) → IsOneLine ((48 + digit) ∷ [])
digit_one_line digit = grind (arith, common_steps)

-- two texts without a line feed, one after the other
pub one_line_append : (first rest : List ℕ) → IsOneLine first → IsOneLine rest → IsOneLine (first ++ rest)
one_line_append first rest h k = rw (list_any-append, h, k) refl

-- a number in digits
pub one_line_decimal : (n : ℕ) → n < 2 ^ 64 → IsOneLine (decimal n)
one_line_decimal = decimal_by_steps (λ m digits. IsOneLine digits) (λ m small. digit_one_line m)
    (λ m digits large before. one_line_append digits _ before (digit_one_line _))

-- a text without a line feed, and a number in digits
pub one_line_number : (first : List ℕ) (n : ℕ) → IsOneLine first → n < 2 ^ 64 → IsOneLine (first ++ decimal n)
one_line_number first n h small = one_line_append first (decimal n) h (one_line_decimal n small)
