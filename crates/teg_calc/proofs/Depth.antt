-- How many brackets are open is how many outer brackets the reader keeps.
use Rattle.std.proofs.Common.{◌≡◌, refl, ap, sym, ◌∙◌, arith, ℕ, zero, suc, ◌+◌, ◌*◌, ◌<◌, ◌≤◌, Bool, true, false, cond, List, [], ◌∷◌, length, Option, Some, None}
use Rattle.std.specs.Prelude.{◌==◌, nat_lt, slice_get, option_map, option_and_then, if◌then◌else◌}
use Rattle.std.proofs.lemmas.List.Sums.{sum_by-append}
use Rattle.teg_calc.specs.declared.bytes.Sign.{Sign}
use Rattle.teg_calc.specs.declared.bytes.Sign.TheVariants.{Blank, Open, Close, Comma, Plus, Dot, Other}
use Rattle.teg_calc.specs.declared.brackets.Call.{Call}
use Rattle.teg_calc.specs.declared.tokens.Word.{Word}
use Rattle.teg_calc.specs.declared.tokens.Word.TheVariants.{Eps, Never as NeverWord, Star as StarWord, Min, Left as LeftWord}
use Rattle.teg_calc.specs.declared.tokens.Part.{Part}
use Rattle.teg_calc.specs.declared.tokens.Part.TheVariants.{Letters, Unit as UnitPart, Name, Shift, Delta, Date}
use Rattle.teg_calc.specs.ExpressionTrees.{Tree}
use Rattle.teg_calc.specs.ParseAnswers.{count_of_byte, open_brackets}
use Rattle.teg_calc.specs.Readers.{Level, Stand, State, state, start, operand, within, operator, step, takes_comma, sign_of, digit_of, begun_by}
use Rattle.teg_calc.specs.Readers.{letters_of, gone_on, date_on, shift_on, factor_of, factored_outside, operand_by, operator_by, word_end, word_on}
use Rattle.teg_calc.specs.Readers.{letter_by, name_by, token_by, step_by, within_step, behind_step}
use Rattle.teg_calc.proofs.Signs.{IsSign, is_open, is_close, sign_is, decide}
use Rattle.series_ops.proofs.number_laws_proofs.Numbers.{same_number}
use Rattle.teg_calc.proofs.TextRuns.{run}

-- ---- bytes that open or close no bracket

-- a byte that is no bracket
pub record IsPlain (b : ℕ) : Type 0 where
  pub not_open : b ≡ 40 → ⊥
  pub not_close : b ≡ 41 → ⊥

-- the same outer brackets as those
same_outer : (x n : State) (o : List Level) → Some x ≡ Some n → x.outer ≡ o → length n.outer ≡ length o
same_outer x n o e h = let g : x ≡ n = cc in ap length (ap (λ (z : State). z.outer) (sym g) ∙ h)

begun_same : (p : Option Part) (o : List Level) (i : Level) (n : State) → option_map (λ q. state o i (within q)) p ≡ Some n → length n.outer ≡ length o
begun_same None o i n e = cc
begun_same (Some q) o i n e = same_outer _ n o e refl

operand_same : (g : Sign) (b : ℕ) (p : Option Part) (o : List Level) (i : Level) (n : State) → IsSign b g → IsPlain b → operand_by g p o i ≡ Some n → length n.outer ≡ length o
operand_same Blank b p o i n s h e = same_outer _ n o e refl
operand_same Open b p o i n (is_open v) h e = absurd (h.not_open v)
operand_same Close b p o i n s h e = begun_same p o i n e
operand_same Comma b p o i n s h e = begun_same p o i n e
operand_same Plus b p o i n s h e = begun_same p o i n e
operand_same Dot b p o i n s h e = begun_same p o i n e
operand_same Other b p o i n s h e = begun_same p o i n e

comma_same : (test : Bool) (o : List Level) (x n : State) → (if test then Some x else None) ≡ Some n → x.outer ≡ o → length n.outer ≡ length o
comma_same true o x n e h = same_outer x n o e h
comma_same false o x n e h = cc

operator_same : (g : Sign) (b : ℕ) (o : List Level) (i : Level) (t : Tree) (n : State) → IsSign b g → IsPlain b → operator_by g o i t ≡ Some n → length n.outer ≡ length o
operator_same Blank b o i t n s h e = same_outer _ n o e refl
operator_same Open b o i t n s h e = cc
operator_same Close b o i t n (is_close v) h e = absurd (h.not_close v)
operator_same Comma b o i t n s h e = comma_same (takes_comma i.call i.first) o _ n e refl
operator_same Plus b o i t n s h e = same_outer _ n o e refl
operator_same Dot b o i t n s h e = same_outer _ n o e refl
operator_same Other b o i t n s h e = cc

word_end_same : (word : Word) (o : List Level) (i : Level) → (word_end word o i).outer ≡ o
word_end_same Eps o i = refl
word_end_same NeverWord o i = refl
word_end_same StarWord o i = refl
word_end_same Min o i = refl
word_end_same LeftWord o i = refl

word_on_same : (word : Word) (read : ℕ) (o : List Level) (i : Level) → (word_on word read o i).outer ≡ o
word_on_same word read o i = decide (nat_lt (read + 1) (length (letters_of word))) (λ e. rw e refl) (λ e. rw e (word_end_same word o i))

letter_same : (x : Option ℕ) (word : Word) (read b : ℕ) (o : List Level) (i : Level) (n : State) → letter_by x word read o i b ≡ Some n → length n.outer ≡ length o
letter_same None word read b o i n e = cc
letter_same (Some letter) word read b o i n e = comma_same (letter == b) o (word_on word read o i) n e (word_on_same word read o i)

name_same : (g : Sign) (b : ℕ) (c : Call) (o : List Level) (i : Level) (n : State) → IsSign b g → IsPlain b → name_by g c o i ≡ Some n → length n.outer ≡ length o
name_same Blank b c o i n s h e = same_outer _ n o e refl
name_same Open b c o i n (is_open v) h e = absurd (h.not_open v)
name_same Close b c o i n s h e = cc
name_same Comma b c o i n s h e = cc
name_same Plus b c o i n s h e = cc
name_same Dot b c o i n s h e = cc
name_same Other b c o i n s h e = cc

behind_same : (f : Option Tree) (b : ℕ) (o : List Level) (i : Level) (n : State) → IsPlain b → behind_step o i f b ≡ Some n → length n.outer ≡ length o
behind_same None b o i n h e = cc
behind_same (Some f) b o i n h e = operator_same (sign_of b) b o _ _ n (sign_is b) h e

token_same : (p : Option Part) (f : Option Tree) (b : ℕ) (o : List Level) (i : Level) (n : State) → IsPlain b → token_by p o i f b ≡ Some n → length n.outer ≡ length o
token_same None f b o i n h e = behind_same f b o i n h e
token_same (Some q) f b o i n h e = same_outer _ n o e refl

within_same : (part : Part) (b : ℕ) (o : List Level) (i : Level) (n : State) → IsPlain b → within_step part o i b ≡ Some n → length n.outer ≡ length o
within_same (Letters word read) b o i n h e = letter_same (slice_get (letters_of word) read) word read b o i n e
within_same (Name c) b o i n h e = name_same (sign_of b) b c o i n (sign_is b) h e
within_same UnitPart b o i n h e = token_same _ _ b o i n h e
within_same (Shift count value) b o i n h e = token_same _ _ b o i n h e
within_same (Delta shift) b o i n h e = token_same _ _ b o i n h e
within_same (Date shift minus count value) b o i n h e = token_same _ _ b o i n h e

plain_same : (stand : Stand) (b : ℕ) (o : List Level) (i : Level) (n : State) → IsPlain b → step_by stand o i b ≡ Some n → length n.outer ≡ length o
plain_same operand b o i n h e = operand_same (sign_of b) b (begun_by b) o i n (sign_is b) h e
plain_same (within part) b o i n h e = within_same part b o i n h e
plain_same (operator t) b o i n h e = operator_same (sign_of b) b o i t n (sign_is b) h e

-- ---- brackets

-- each of these is a letter
AreLetters : List ℕ → Type 0
AreLetters [] = Unit {0}
AreLetters (x ∷ xs) = (97 ≤ x) × AreLetters xs

letters_are : (word : Word) → AreLetters (letters_of word)
unfolding AreLetters
letters_are Eps = (omega arith, (omega arith, (omega arith, tt)))
letters_are NeverWord = (omega arith, (omega arith, (omega arith, (omega arith, (omega arith, tt)))))
letters_are StarWord = (omega arith, (omega arith, (omega arith, (omega arith, tt))))
letters_are Min = (omega arith, (omega arith, (omega arith, tt)))
letters_are LeftWord = (omega arith, (omega arith, (omega arith, (omega arith, tt))))

letter_is : (xs : List ℕ) (i b : ℕ) → AreLetters xs → slice_get xs i ≡ Some b → 97 ≤ b
unfolding AreLetters
letter_is [] i b h e = cc
letter_is (x ∷ xs) zero b h e = let g : x ≡ b = cc in rw (← g) h.0
letter_is (x ∷ xs) (suc i) b h e = letter_is xs i b h.1 e

no_letter : (x : Option ℕ) (word : Word) (read b : ℕ) (o : List Level) (i : Level) (n : State) → b < 97 → slice_get (letters_of word) read ≡ x → letter_by x word read o i b ≡ Some n → ⊥
no_letter None word read b o i n low g e = cc
no_letter (Some letter) word read b o i n low g e = decide (letter == b)
    (λ z. let same : letter ≡ b = same_number letter b z in let high : 97 ≤ letter = letter_is (letters_of word) read letter (letters_are word) g in omega arith)
    (λ z. let none : None ≡ Some n = rw z at e in cc)

-- a byte by which no part goes on
record IsNoByte (b : ℕ) : Type 0 where
  letter : (b == 112) ≡ false
  delta : (b == 100) ≡ false
  minus : (b == 45) ≡ false
  digit : digit_of b ≡ None

none_either : (test : Bool) (x : Option Part) → x ≡ None → (if test then x else None) ≡ None
none_either true x h = h
none_either false x h = refl

no_date : (shift : ℕ) (minus : Bool) (count value b : ℕ) → digit_of b ≡ None → date_on shift minus count value b ≡ None
no_date shift minus count value b h = none_either (nat_lt count 19) (option_map (λ d. Date shift minus (count + 1) (value * 10 + d)) (digit_of b)) (rw h refl)

no_shift : (count value b : ℕ) → digit_of b ≡ None → shift_on count value b ≡ None
no_shift count value b h = none_either (nat_lt count 19) (option_map (λ d. Shift (count + 1) (value * 10 + d)) (digit_of b)) (rw h refl)

gone_none : (part : Part) (b : ℕ) → IsNoByte b → gone_on part b ≡ None
gone_none (Letters word read) b h = refl
gone_none UnitPart b h = rw h.letter refl
gone_none (Name c) b h = refl
gone_none (Shift count value) b h = rw h.delta (no_shift count value b h.digit)
gone_none (Delta shift) b h = rw h.minus (no_date shift false 0 0 b h.digit)
gone_none (Date shift minus count value) b h = no_date shift minus count value b h.digit

open_is_none : IsNoByte 40
open_is_none = record { letter = refl; delta = refl; minus = refl; digit = refl }

close_is_none : IsNoByte 41
close_is_none = record { letter = refl; delta = refl; minus = refl; digit = refl }

-- a bracket opens behind no token
no_open : (f : Option Tree) (o : List Level) (i : Level) (n : State) → behind_step o i f 40 ≡ Some n → ⊥
no_open None o i n e = cc
no_open (Some f) o i n e = cc

token_opens : (p : Option Part) (f : Option Tree) (o : List Level) (i : Level) (n : State) → p ≡ None → token_by p o i f 40 ≡ Some n → ⊥
token_opens None f o i n h e = no_open f o i n e
token_opens (Some q) f o i n h e = cc

one_more : (x n : State) (o : List Level) → Some x ≡ Some n → length x.outer ≡ length o + 1 → length n.outer ≡ length o + 1
one_more x n o e h = let g : x ≡ n = cc in ap (λ (z : State). length z.outer) (sym g) ∙ h

opens_one : (stand : Stand) (o : List Level) (i : Level) (n : State) → step_by stand o i 40 ≡ Some n → length n.outer ≡ length o + 1
opens_one operand o i n e = one_more _ n o e (omega arith)
opens_one (within (Letters word read)) o i n e = absurd (no_letter (slice_get (letters_of word) read) word read 40 o i n (omega arith) refl e)
opens_one (within (Name c)) o i n e = one_more _ n o e (omega arith)
opens_one (within UnitPart) o i n e = absurd (token_opens (gone_on UnitPart 40) (factor_of UnitPart) o i n (gone_none UnitPart 40 open_is_none) e)
opens_one (within (Shift count value)) o i n e = absurd (token_opens (gone_on (Shift count value) 40) None o i n (gone_none (Shift count value) 40 open_is_none) e)
opens_one (within (Delta shift)) o i n e = absurd (token_opens (gone_on (Delta shift) 40) None o i n (gone_none (Delta shift) 40 open_is_none) e)
opens_one (within (Date shift minus count value)) o i n e =
    absurd (token_opens (gone_on (Date shift minus count value) 40) (factor_of (Date shift minus count value)) o i n
    (gone_none (Date shift minus count value) 40 open_is_none) e)
opens_one (operator t) o i n e = cc

one_less : (x : Option Tree) (o : List Level) (n : State) → option_and_then (factored_outside o) x ≡ Some n → length n.outer + 1 ≡ length o
one_less None o n e = cc
one_less (Some f) [] n e = cc
one_less (Some f) (m ∷ o) n e = let h : length n.outer ≡ length o = same_outer _ n o e refl in omega arith

behind_closes : (f : Option Tree) (o : List Level) (i : Level) (n : State) → behind_step o i f 41 ≡ Some n → length n.outer + 1 ≡ length o
behind_closes None o i n e = cc
behind_closes (Some f) o i n e = one_less _ o n e

token_closes : (p : Option Part) (f : Option Tree) (o : List Level) (i : Level) (n : State) → p ≡ None → token_by p o i f 41 ≡ Some n → length n.outer + 1 ≡ length o
token_closes None f o i n h e = behind_closes f o i n e
token_closes (Some q) f o i n h e = cc

closes_one : (stand : Stand) (o : List Level) (i : Level) (n : State) → step_by stand o i 41 ≡ Some n → length n.outer + 1 ≡ length o
closes_one operand o i n e = cc
closes_one (within (Letters word read)) o i n e = absurd (no_letter (slice_get (letters_of word) read) word read 41 o i n (omega arith) refl e)
closes_one (within (Name c)) o i n e = cc
closes_one (within UnitPart) o i n e = token_closes (gone_on UnitPart 41) (factor_of UnitPart) o i n (gone_none UnitPart 41 close_is_none) e
closes_one (within (Shift count value)) o i n e = token_closes (gone_on (Shift count value) 41) None o i n (gone_none (Shift count value) 41 close_is_none) e
closes_one (within (Delta shift)) o i n e = token_closes (gone_on (Delta shift) 41) None o i n (gone_none (Delta shift) 41 close_is_none) e
closes_one (within (Date shift minus count value)) o i n e =
    token_closes (gone_on (Date shift minus count value) 41) (factor_of (Date shift minus count value)) o i n
    (gone_none (Date shift minus count value) 41 close_is_none) e
closes_one (operator t) o i n e = one_less _ o n e

-- ---- texts

-- one byte more changes the depth as it changes the brackets of the text
step_depth : (s n : State) (b : ℕ) → step s b ≡ Some n → length n.outer + cond (b == 41) 1 0 ≡ length s.outer + cond (b == 40) 1 0
step_depth s n b e = decide (b == 40)
    (λ z. let v : b ≡ 40 = same_number b 40 z in let k : length n.outer ≡ length s.outer + 1 = opens_one s.stand s.outer s.inner n (rw v at e) in rw v (omega arith))
    (λ z. decide (b == 41)
    (λ y. let v : b ≡ 41 = same_number b 41 y in let k : length n.outer + 1 ≡ length s.outer = closes_one s.stand s.outer s.inner n (rw v at e) in rw v (omega arith))
    (λ y. let k : length n.outer ≡ length s.outer = plain_same s.stand b s.outer s.inner n (record {
      not_open = λ v. let no : (b == 40) ≡ true = rw v refl in cc;
      not_close = λ v. let no : (b == 41) ≡ true = rw v refl in cc;
    }) e in rw (z, y) (omega arith)))

run_depth : (u : List ℕ) (s t : State) → run s u ≡ Some t → length t.outer + count_of_byte 41 u ≡ length s.outer + count_of_byte 40 u
run_depth [] s t e = let g : s ≡ t = cc in rw g refl
run_depth (b ∷ u) s t e = by_step (step s b) refl e (λ n k. run_depth u n t k) where
  by_step : (x : Option State) → step s b ≡ x → option_and_then (λ n. run n u) x ≡ Some t → ((n : State) → run n u ≡ Some t → length t.outer + count_of_byte 41 u ≡ length n.outer + count_of_byte 40 u)
      → length t.outer + count_of_byte 41 (b ∷ u) ≡ length s.outer + count_of_byte 40 (b ∷ u)
  by_step None g k rest = cc
  by_step (Some n) g k rest =
      let d : length n.outer + cond (b == 41) 1 0 ≡ length s.outer + cond (b == 40) 1 0 = step_depth s n b g in
      let r : length t.outer + count_of_byte 41 u ≡ length n.outer + count_of_byte 40 u = rest n k in
      let x : count_of_byte 41 (b ∷ u) ≡ (0 + cond (b == 41) 1 0) + count_of_byte 41 u = sum_by-append (λ y. cond (y == 41) 1 0) (b ∷ []) u in
      let y : count_of_byte 40 (b ∷ u) ≡ (0 + cond (b == 40) 1 0) + count_of_byte 40 u = sum_by-append (λ z. cond (z == 40) 1 0) (b ∷ []) u in
      omega arith

-- so many brackets are open behind a text
pub read_depth : (text : List ℕ) (s : State) → run start text ≡ Some s → open_brackets text ≡ length s.outer
read_depth text s e = let h : length s.outer + count_of_byte 41 text ≡ 0 + count_of_byte 40 text = run_depth text start s e in omega arith
