use Rattle.std.proofs.Common.{rules, arith, sym, ap, ◌≡◌, ◌∙◌, ◌<◌, ◌≤◌, ◌^◌, ℕ, List, length, true, Bool, Ok, None, cond}
use Rattle.std.specs.Char.{is_ascii_digit}
use Rattle.std.specs.List.{list_all}
use Rattle.std.specs.Str.Parse.{digits_value}
use Rattle.std.proofs.lemmas.Bool.Decides.{nat_tests}
use Rattle.std.proofs.lemmas.Str.Parse.{IsNumeralModel, digits_value_short, numerals_by_value, parse_gives}
use Rattle.teg_words.specs.NumberWords.{within, is_number_word}
use Rattle.teg_words.proofs.numbers.number.Goals as goal

own : IsNumeralModel (λ ds. list_all is_ascii_digit ds ≡ true) (digits_value 10)
own = numerals_by_value _ (search rules)

parts : (t : List ℕ) → is_number_word t ≡ true → (1 ≤ length t) × (length t ≤ 19) × (list_all is_ascii_digit t ≡ true)
parts t h = grind (arith, nat_tests)

-- 19 digits fit 64 bits
small : (t : List ℕ) → is_number_word t ≡ true → digits_value 10 t < 2 ^ 64
small t h =
    let (some, most, digits) = parts t h in
    let short : digits_value 10 t < 10 ^ 19 = digits_value_short own t 19 digits most in
    omega arith

pub returns-in-Ok-clause-value : goal.returns-in-Ok-clause-value
returns-in-Ok-clause-value c =
    let t = c.args.word.now in
    let yes : is_number_word t ≡ true = sym c.is_numeral.ensures ∙ c.if-not-is_numeral.false in
    let (some, most, digits) = parts t yes in
    let parsed : c.parse.result ≡ Ok (digits_value 10 t) = parse_gives own 64 t c.parse.result c.parse.ensures.value.0 digits (omega arith) (small t yes) in
    let value_is : c.in-Ok.value ≡ digits_value 10 t = cc in
    c.within.ensures.value ∙ ap (within c.args.low c.args.high) value_is
    ∙ ap (λ (b : Bool). cond b (within c.args.low c.args.high (digits_value 10 t)) None) (sym yes)

pub returns-in-Err-clause-value : goal.returns-in-Err-clause-value
returns-in-Err-clause-value c =
    let t = c.args.word.now in
    let yes : is_number_word t ≡ true = sym c.is_numeral.ensures ∙ c.if-not-is_numeral.false in
    let (some, most, digits) = parts t yes in
    let parsed : c.parse.result ≡ Ok (digits_value 10 t) = parse_gives own 64 t c.parse.result c.parse.ensures.value.0 digits (omega arith) (small t yes) in
    cc
