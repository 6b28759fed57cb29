-- One byte more in a token.
use Rattle.std.proofs.Common.{◌≡◌, refl, ap, sym, ◌∙◌, arith, ℕ, ◌+◌, ◌*◌, ◌<◌, Bool, false, List, [], ◌∷◌, ◌++◌, length, take, get_or, unwrap_or, Option, Some, None, append_assoc}
use Rattle.std.specs.Prelude.{◌==◌, nat_lt, slice_get, option_map}
use Rattle.std.specs.Char.{digit_value}
use Rattle.std.proofs.lemmas.Int.Digits.{digits_push, digits_value_push}
use Rattle.std.proofs.lemmas.Bool.Decides.{nat_tests}
use Rattle.std.proofs.lemmas.List.{length-append, take_more}
use Rattle.std.proofs.lemmas.Option.{unwrap_or-slice_get}
use Rattle.teg_calc.specs.declared.tokens.Part.{Part}
use Rattle.teg_calc.specs.declared.tokens.Part.TheVariants.{Letters, Unit as UnitPart, Name, Shift, Delta, Date}
use Rattle.teg_calc.specs.Readers.{digit_of, begun_by, gone_on, shift_on, date_on}
use Rattle.teg_calc.proofs.Signs.{decide}
use Rattle.series_ops.proofs.number_laws_proofs.Numbers.{same_number}
use Rattle.teg_calc.proofs.Holding.{AreDigitsOf, IsPartText, IsLetters, IsShiftText, IsDateText}

-- where there is a part, its text is this
abbrev pub IfPart : Option Part → List ℕ → Type 0
IfPart None z = Unit {0}
IfPart (Some part) z = IsPartText part z

-- no digits
no_digits : AreDigitsOf 0 0 []
no_digits = record { digits_are = tt; count_is = refl; few = omega arith; value_is = refl }

-- a first letter
pub begun_text : (b : ℕ) → IfPart (begun_by b) (b ∷ [])
begun_text b =
    decide (b == 103) (λ e. let v : b ≡ 103 = same_number b 103 e in rw (e, v) (record { digits = []; are = no_digits; text_is = refl })) (λ g.
    decide (b == 101) (λ e. let v : b ≡ 101 = same_number b 101 e in rw (g, e, v) refl) (λ u.
    decide (b == 110) (λ e. let v : b ≡ 110 = same_number b 110 e in rw (g, u, e, v) (record { within = omega arith; text_is = refl })) (λ n.
    decide (b == 115) (λ e. let v : b ≡ 115 = same_number b 115 e in rw (g, u, n, e, v) (record { within = omega arith; text_is = refl })) (λ s.
    decide (b == 109) (λ e. let v : b ≡ 109 = same_number b 109 e in rw (g, u, n, s, e, v) (record { within = omega arith; text_is = refl })) (λ m.
    decide (b == 108) (λ e. let v : b ≡ 108 = same_number b 108 e in rw (g, u, n, s, m, e, v) (record { within = omega arith; text_is = refl })) (λ l.
    rw (g, u, n, s, m, l) tt))))))

-- one digit more
more_digits : (count value b : ℕ) (ds : List ℕ) → AreDigitsOf count value ds → count < 19 → digit_value b < 10 → AreDigitsOf (count + 1) (value * 10 + digit_value b) (ds ++ (b ∷ []))
more_digits count value b ds h few digit = record {
  digits_are = digits_push 10 ds b h.digits_are digit;
  count_is = let e : length ds ≡ count = h.count_is in rw (length-append ds (b ∷ [])) (omega arith);
  few = omega arith;
  value_is = digits_value_push 10 ds b ∙ ap (λ (z : ℕ). z * 10 + digit_value b) h.value_is;
}

-- what a digit makes of a part, where the byte is one
by_digit : (b : ℕ) (f : ℕ → Part) (z : List ℕ) → (digit_value b < 10 → IsPartText (f (digit_value b)) z) → IfPart (option_map f (digit_of b)) z
by_digit b f z k = decide (nat_lt (digit_value b) 10) (λ e. let h : digit_value b < 10 = grind (arith, nat_tests) in rw e (k h)) (λ e. rw e tt)

shift_text : (count value b : ℕ) (z : List ℕ) → IsShiftText count value z → IfPart (shift_on count value b) (z ++ (b ∷ []))
shift_text count value b z h = decide (nat_lt count 19) (λ e. let few : count < 19 = grind (arith, nat_tests) in
    rw e (by_digit b (λ d. Shift (count + 1) (value * 10 + d)) (z ++ (b ∷ [])) (λ digit. record {
      digits = h.digits ++ (b ∷ []);
      are = more_digits count value b h.digits h.are few digit;
      text_is = rw h.text_is refl;
    }))) (λ e. rw e tt)

date_text : (shift : ℕ) (minus : Bool) (count value b : ℕ) (z : List ℕ) → IsDateText shift minus count value z → IfPart (date_on shift minus count value b) (z ++ (b ∷ []))
date_text shift minus count value b z h = decide (nat_lt count 19) (λ e. let few : count < 19 = grind (arith, nat_tests) in
    rw e (by_digit b (λ d. Date shift minus (count + 1) (value * 10 + d)) (z ++ (b ∷ [])) (λ digit. record {
      digits = h.digits;
      are = h.are;
      value_is = h.value_is;
      date = h.date ++ (b ∷ []);
      date_are = more_digits count value b h.date h.date_are few digit;
      text_is = rw h.text_is (simp append_assoc);
    }))) (λ e. rw e tt)

-- a part that goes on by a byte
pub gone_text : (part : Part) (b : ℕ) (z : List ℕ) → IsPartText part z → IfPart (gone_on part b) (z ++ (b ∷ []))
gone_text (Letters word read) b z h = tt
gone_text UnitPart b z h = decide (b == 112) (λ e. let v : b ≡ 112 = same_number b 112 e in rw (e, v, h) (record { within = omega arith; text_is = refl })) (λ e. rw e tt)
gone_text (Name call) b z h = tt
gone_text (Shift count value) b z h = decide (b == 100) (λ e. rw e (decide (count == 0) (λ g. rw g tt) (λ g.
    let v : b ≡ 100 = same_number b 100 e in
    let c : length h.digits ≡ count = h.are.count_is in
    rw g (record {
      digits = h.digits;
      are = record { numeral = (grind (arith, nat_tests), h.are.digits_are); few = omega (arith, h.are.few) };
      value_is = h.are.value_is;
      text_is = rw (h.text_is, v) refl;
    })))) (λ e. rw e (shift_text count value b z h))
gone_text (Delta shift) b z h = decide (b == 45) (λ e. let v : b ≡ 45 = same_number b 45 e in rw e (record {
  digits = h.digits;
  are = h.are;
  value_is = h.value_is;
  date = [];
  date_are = no_digits;
  text_is = rw (h.text_is, v) (ap (λ (x : List ℕ). 103 ∷ x) (append_assoc h.digits (100 ∷ []) (45 ∷ [])));
})) (λ e. rw e (date_text shift false 0 0 b z (record { digits = h.digits; are = h.are; value_is = h.value_is; date = []; date_are = no_digits; text_is = h.text_is })))
gone_text (Date shift minus count value) b z h = date_text shift minus count value b z h

-- one letter more of a word
pub letters_more : (word : List ℕ) (read b : ℕ) (z : List ℕ) → IsLetters word read z → slice_get word read ≡ Some b → z ++ (b ∷ []) ≡ take (read + 1) word
letters_more word read b z h e =
    let g : get_or word read 0 ≡ b = sym (unwrap_or-slice_get word read 0) ∙ ap (λ (o : Option ℕ). unwrap_or o 0) e in
    rw h.text_is (sym (rw g at (take_more word read 0 h.within)))
