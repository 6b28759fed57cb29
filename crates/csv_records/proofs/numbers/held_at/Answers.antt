use Rattle.std.proofs.Common.{◌≡◌, ◌<◌, ℕ, List, Bool, true, length, get_or, inl, inr, arith}
use Rattle.std.specs.Char.{is_ascii_digit}
use Rattle.std.specs.Int.{IsInRange}
use Rattle.std.specs.List.{list_all}
use Rattle.std.proofs.lemmas.Bool.{cases_Bool}
use Rattle.std.proofs.lemmas.Bool.Decides.{nat_tests}
use Rattle.std.proofs.lemmas.Int.Digits.{digits_value_more}
use Rattle.std.proofs.lemmas.List.Folds.{list_all_at}
use Rattle.std.proofs.lemmas.Str.{digit_value_digit}
use Rattle.csv_records.proofs.numbers.held_at.Goals as goal

each_passes : {X : Type 0} (p : X → Bool) (xs : List X) (i : ℕ) (d : X) → i < length xs → list_all p xs ≡ true → p (get_or xs i d) ≡ true
each_passes p xs i d lt h = elim (cases_Bool (p (get_or xs i d))) [
  | inl passes ↦ passes
  | inr fails ↦ cc (list_all_at p xs i d lt fails)
]

digit : (c : _) → is_ascii_digit c ≡ true → IsInRange 48 57 c
digit c h = grind (arith, nat_tests)

pub loop-digit-preserved : goal.loop-digit-preserved
loop-digit-preserved c =
    let i = c.loop-digit.digit-index in
    let b = get_or c.args.field.now i 0 in
    let lt : i < length c.args.field.now = omega arith in
    let is_digit = digit b (each_passes is_ascii_digit c.args.field.now i 0 lt c.requires.digits) in
    let value_is = digit_value_digit b is_digit in
    let more = digits_value_more 10 c.args.field.now i lt in
    record { value = omega arith; fits = omega arith }
