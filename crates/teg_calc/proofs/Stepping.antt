-- Each byte that the reader takes keeps that the text leads to its state.
use Rattle.std.proofs.Common.{◌≡◌, refl, ap, sym, ◌∙◌, arith, ℕ, ◌+◌, ◌<◌, ◌≤◌, List, [], ◌∷◌, ◌++◌, length, take, codes, Option, Some, None, append_assoc}
use Rattle.std.specs.Prelude.{◌==◌, nat_lt, slice_get, option_map, option_and_then}
use Rattle.std.proofs.lemmas.Bool.Decides.{nat_tests}
use Rattle.std.proofs.lemmas.List.{append-nil, take_all}
use Rattle.teg_calc.specs.declared.bytes.Sign.{Sign}
use Rattle.teg_calc.specs.declared.bytes.Sign.TheVariants.{Blank, Open, Close, Comma, Plus, Dot, Other}
use Rattle.teg_calc.specs.declared.brackets.Call.{Call}
use Rattle.teg_calc.specs.declared.brackets.Call.TheVariants.{Text, Group, Star as StarCall, Least as LeastCall, Left as LeftCall}
use Rattle.teg_calc.specs.declared.tokens.Word.{Word}
use Rattle.teg_calc.specs.declared.tokens.Word.TheVariants.{Eps, Never as NeverWord, Star as StarWord, Min, Left as LeftWord}
use Rattle.teg_calc.specs.declared.tokens.Part.{Part}
use Rattle.teg_calc.specs.declared.tokens.Part.TheVariants.{Letters, Unit as UnitPart, Name, Shift, Delta, Date}
use Rattle.teg_calc.specs.ExpressionTrees.{Tree}
use Rattle.teg_calc.specs.Grammar.{FactorText, eps_word, never_word, blanks, spaced, factor_text, factor_tree}
use Rattle.teg_calc.specs.Readers.{Level, level, Stand, State, state, start, operand, within, operator, step, nested, multiplied, sign_of, begun_by}
use Rattle.teg_calc.specs.Readers.{letters_of, gone_on, factor_of, factored, behind_step, within_step, operand_by, word_end, word_on, letter_by}
use Rattle.teg_calc.specs.Readers.{name_by, token_by, step_by}
use Rattle.teg_calc.proofs.Signs.{IsSign, is_blank, is_open, sign_is, decide}
use Rattle.series_ops.proofs.number_laws_proofs.Numbers.{same_number}
use Rattle.teg_calc.proofs.Holding.{IsHead, IsCallHead, IsNameText, Holds}
use Rattle.teg_calc.proofs.TokenSteps.{IfPart, begun_text, gone_text, letters_more}
use Rattle.teg_calc.proofs.Behind.{reached, opens, blank_more, factor_holds, spaced_token, token_text, with_byte, part_more, ends_holds, operator_holds}
use Rattle.teg_calc.proofs.TextRuns.{run}

-- ---- where an operand begins

blank_before : (o : List Level) (i : Level) (w : List ℕ) → Holds (state o i operand) w → Holds (state o i operand) (w ++ (32 ∷ []))
blank_before o i w h = record {
  heads = h.heads;
  sum = h.sum;
  last = h.last ++ (32 ∷ []);
  is_heads = h.is_heads;
  is_sum = h.is_sum;
  is_last = record {
    own = h.is_last.own;
    spaces = h.is_last.spaces + 1;
    is_product = h.is_last.is_product;
    text_is = rw (h.is_last.text_is, blank_more h.is_last.spaces) (simp append_assoc);
  };
  text_is = rw h.text_is (simp append_assoc);
}

open_before : (o : List Level) (i : Level) (w : List ℕ) → Holds (state o i operand) w → Holds (nested o i Group) (w ++ (40 ∷ []))
open_before o i w h =
    opens o i Group (w ++ (40 ∷ [])) h.heads h.sum h.is_last.own (blanks h.is_last.spaces ++ (40 ∷ [])) h.is_heads h.is_sum h.is_last.is_product
    (record { inside = record { before = h.is_last.spaces; after = 0 }; text_is = refl })
    (rw (h.text_is, h.is_last.text_is) (simp append_assoc))

begun_holds : (p : Option Part) (b : ℕ) (o : List Level) (i : Level) (n : State) (w : List ℕ) → IfPart p (b ∷ []) → Holds (state o i operand) w
    → option_map (λ q. state o i (within q)) p ≡ Some n → Holds n (w ++ (b ∷ []))
begun_holds None b o i n w p h e = cc
begun_holds (Some part) b o i n w p h e = reached _ n _ e (record {
  heads = h.heads;
  sum = h.sum;
  last = h.last ++ (b ∷ []);
  is_heads = h.is_heads;
  is_sum = h.is_sum;
  is_last = record { own = h.is_last.own; spaces = h.is_last.spaces; token = b ∷ []; is_product = h.is_last.is_product; is_token = p; text_is = rw h.is_last.text_is (simp append_assoc) };
  text_is = rw h.text_is (simp append_assoc);
})

operand_holds : (g : Sign) (b : ℕ) (o : List Level) (i : Level) (n : State) (w : List ℕ) → IsSign b g → Holds (state o i operand) w
    → operand_by g (begun_by b) o i ≡ Some n → Holds n (w ++ (b ∷ []))
operand_holds Blank b o i n w (is_blank v) h e = rw v (reached _ n _ e (blank_before o i w h))
operand_holds Open b o i n w (is_open v) h e = rw v (reached _ n _ e (open_before o i w h))
operand_holds Close b o i n w s h e = begun_holds (begun_by b) b o i n w (begun_text b) h e
operand_holds Comma b o i n w s h e = begun_holds (begun_by b) b o i n w (begun_text b) h e
operand_holds Plus b o i n w s h e = begun_holds (begun_by b) b o i n w (begun_text b) h e
operand_holds Dot b o i n w s h e = begun_holds (begun_by b) b o i n w (begun_text b) h e
operand_holds Other b o i n w s h e = begun_holds (begun_by b) b o i n w (begun_text b) h e

-- ---- in a token

-- a factor that is one token, whole with the byte
token_more_holds : (o : List Level) (i : Level) (w : List ℕ) (part : Part) (b : ℕ) (h : Holds (state o i (within part)) w) (z : List ℕ) → h.is_last.token ++ (b ∷ []) ≡ z → (f : FactorText)
    → factor_text f ≡ spaced (spaced_token h.is_last.spaces) z → Holds (factored o i (factor_tree f)) (w ++ (b ∷ []))
token_more_holds o i w part b h z e f g =
    factor_holds o i (w ++ (b ∷ [])) h.heads h.sum h.is_last.own f h.is_heads h.is_sum h.is_last.is_product
    (with_byte o i w part h (b ∷ []) ∙ ap (λ (x : List ℕ). h.heads ++ (h.sum ++ (h.is_last.own ++ (blanks h.is_last.spaces ++ x)))) e
    ∙ ap (λ (x : List ℕ). h.heads ++ (h.sum ++ (h.is_last.own ++ x))) (sym (token_text h.is_last.spaces z) ∙ sym g))

-- behind a whole word
word_holds : (word : Word) (o : List Level) (i : Level) (w : List ℕ) (read b : ℕ) (h : Holds (state o i (within (Letters word read))) w)
    → h.is_last.token ++ (b ∷ []) ≡ letters_of word → Holds (word_end word o i) (w ++ (b ∷ []))
unfolding spaced_token
word_holds Eps o i w read b h e =
    token_more_holds o i w (Letters Eps read) b h (codes "eps") e (eps_word (spaced_token h.is_last.spaces)) refl
word_holds NeverWord o i w read b h e =
    token_more_holds o i w (Letters NeverWord read) b h (codes "never") e (never_word (spaced_token h.is_last.spaces)) refl
word_holds StarWord o i w read b h e = part_more o i w (b ∷ []) (Letters StarWord read) (Name StarCall) h (record { after = 0; text_is = e })
word_holds Min o i w read b h e = part_more o i w (b ∷ []) (Letters Min read) (Name LeastCall) h (record { after = 0; text_is = e })
word_holds LeftWord o i w read b h e = part_more o i w (b ∷ []) (Letters LeftWord read) (Name LeftCall) h (record { after = 0; text_is = e })

letter_holds : (word : Word) (read b : ℕ) (o : List Level) (i : Level) (n : State) (w : List ℕ) → Holds (state o i (within (Letters word read))) w
    → letter_by (slice_get (letters_of word) read) word read o i b ≡ Some n → Holds n (w ++ (b ∷ []))
letter_holds word read b o i n w h e = by_letter (slice_get (letters_of word) read) refl e where
  on_letter : (slice_get (letters_of word) read ≡ Some b) → Some (word_on word read o i) ≡ Some n → Holds n (w ++ (b ∷ []))
  on_letter g k =
      let longer : h.is_last.token ++ (b ∷ []) ≡ take (read + 1) (letters_of word) = letters_more (letters_of word) read b h.is_last.token h.is_last.is_token g in
      decide (nat_lt (read + 1) (length (letters_of word))) (λ z. let short : read + 1 < length (letters_of word) = grind (arith, nat_tests) in
      reached _ n _ (rw z at k) (part_more o i w (b ∷ []) (Letters word read) (Letters word (read + 1)) h
      (record { within = short; text_is = longer }))) (λ z. let whole : length (letters_of word) ≤ read + 1 = grind (arith, nat_tests) in
      reached (word_end word o i) n _ (rw z at k) (word_holds word o i w read b h (longer ∙ take_all (read + 1) (letters_of word) whole)))

  by_letter : (x : Option ℕ) → slice_get (letters_of word) read ≡ x → letter_by x word read o i b ≡ Some n → Holds n (w ++ (b ∷ []))
  by_letter None g k = cc
  by_letter (Some letter) g k = decide (letter == b)
      (λ z. let same : letter ≡ b = same_number letter b z in on_letter (g ∙ ap (λ (x : ℕ). Some x) same) (rw z at k))
      (λ z. let none : None ≡ Some n = rw z at k in cc)

-- a name of a call with its blanks, and the bracket behind it
name_opens : (o : List Level) (i : Level) (c : Call) (name : List ℕ) (w : List ℕ) (h : Holds (state o i (within (Name c))) w) → IsNameText name h.is_last.token
    → ((own : List ℕ) → IsCallHead name own → IsHead c None own) → Holds (nested o i c) (w ++ (40 ∷ []))
name_opens o i c name w h d made =
    opens o i c (w ++ (40 ∷ [])) h.heads h.sum h.is_last.own (blanks h.is_last.spaces ++ (h.is_last.token ++ (40 ∷ []))) h.is_heads h.is_sum h.is_last.is_product
    (made _ (record {
      before = record { before = h.is_last.spaces; after = d.after };
      inside = record { before = 0; after = 0 };
      text_is = rw d.text_is (simp append_assoc);
    }))
    (rw (h.text_is, h.is_last.text_is) (simp append_assoc))

name_longer : (name z : List ℕ) → IsNameText name z → IsNameText name (z ++ (32 ∷ []))
name_longer name z d = record { after = d.after + 1; text_is = rw (d.text_is, blank_more d.after) (simp append_assoc) }

name_holds : (g : Sign) (b : ℕ) (c : Call) (o : List Level) (i : Level) (n : State) (w : List ℕ) → IsSign b g → Holds (state o i (within (Name c))) w
    → name_by g c o i ≡ Some n → Holds n (w ++ (b ∷ []))
name_holds Blank b Text o i n w s h e = absurd h.is_last.is_token
name_holds Blank b Group o i n w s h e = absurd h.is_last.is_token
name_holds Blank b StarCall o i n w (is_blank v) h e =
    rw v (reached _ n _ e (part_more o i w (32 ∷ []) (Name StarCall) (Name StarCall) h (name_longer (codes "star") h.is_last.token h.is_last.is_token)))
name_holds Blank b LeastCall o i n w (is_blank v) h e =
    rw v (reached _ n _ e (part_more o i w (32 ∷ []) (Name LeastCall) (Name LeastCall) h (name_longer (codes "min") h.is_last.token h.is_last.is_token)))
name_holds Blank b LeftCall o i n w (is_blank v) h e =
    rw v (reached _ n _ e (part_more o i w (32 ∷ []) (Name LeftCall) (Name LeftCall) h (name_longer (codes "left") h.is_last.token h.is_last.is_token)))
name_holds Open b Text o i n w s h e = absurd h.is_last.is_token
name_holds Open b Group o i n w s h e = absurd h.is_last.is_token
name_holds Open b StarCall o i n w (is_open v) h e = rw v (reached _ n _ e (name_opens o i StarCall (codes "star") w h h.is_last.is_token (λ own k. k)))
name_holds Open b LeastCall o i n w (is_open v) h e = rw v (reached _ n _ e (name_opens o i LeastCall (codes "min") w h h.is_last.is_token (λ own k. k)))
name_holds Open b LeftCall o i n w (is_open v) h e = rw v (reached _ n _ e (name_opens o i LeftCall (codes "left") w h h.is_last.is_token (λ own k. k)))
name_holds Close b c o i n w s h e = cc
name_holds Comma b c o i n w s h e = cc
name_holds Plus b c o i n w s h e = cc
name_holds Dot b c o i n w s h e = cc
name_holds Other b c o i n w s h e = cc

-- behind a token that is a factor
behind_holds : (f : Option Tree) (part : Part) (b : ℕ) (o : List Level) (i : Level) (n : State) (w : List ℕ) → Holds (state o i (within part)) w → factor_of part ≡ f
    → behind_step o i f b ≡ Some n → Holds n (w ++ (b ∷ []))
behind_holds None part b o i n w h e k = cc
behind_holds (Some f) part b o i n w h e k =
    operator_holds (sign_of b) b o (level i.call i.first i.sum None) (multiplied i.product f) n w (sign_is b) (ends_holds o i w part f h e) k

-- in a token or behind it
token_holds_on : (p : Option Part) (part : Part) (b : ℕ) (o : List Level) (i : Level) (n : State) (w : List ℕ) (h : Holds (state o i (within part)) w) → IfPart p (h.is_last.token ++ (b ∷ []))
    → token_by p o i (factor_of part) b ≡ Some n → Holds n (w ++ (b ∷ []))
token_holds_on None part b o i n w h p e = behind_holds (factor_of part) part b o i n w h refl e
token_holds_on (Some next) part b o i n w h p e = reached _ n _ e (part_more o i w (b ∷ []) part next h p)

within_holds : (part : Part) (b : ℕ) (o : List Level) (i : Level) (n : State) (w : List ℕ) → Holds (state o i (within part)) w
    → within_step part o i b ≡ Some n → Holds n (w ++ (b ∷ []))
within_holds (Letters word read) b o i n w h e = letter_holds word read b o i n w h e
within_holds (Name c) b o i n w h e = name_holds (sign_of b) b c o i n w (sign_is b) h e
within_holds UnitPart b o i n w h e = token_holds_on (gone_on UnitPart b) UnitPart b o i n w h (gone_text UnitPart b h.is_last.token h.is_last.is_token) e
within_holds (Shift count value) b o i n w h e = token_holds_on (gone_on (Shift count value) b) (Shift count value) b o i n w h (gone_text (Shift count value) b h.is_last.token h.is_last.is_token) e
within_holds (Delta shift) b o i n w h e = token_holds_on (gone_on (Delta shift) b) (Delta shift) b o i n w h (gone_text (Delta shift) b h.is_last.token h.is_last.is_token) e
within_holds (Date shift minus count value) b o i n w h e =
    token_holds_on (gone_on (Date shift minus count value) b) (Date shift minus count value) b o i n w h
    (gone_text (Date shift minus count value) b h.is_last.token h.is_last.is_token) e

-- ---- texts

step_holds : (stand : Stand) (o : List Level) (i : Level) (b : ℕ) (n : State) (w : List ℕ) → Holds (state o i stand) w → step_by stand o i b ≡ Some n → Holds n (w ++ (b ∷ []))
step_holds operand o i b n w h e = operand_holds (sign_of b) b o i n w (sign_is b) h e
step_holds (within part) o i b n w h e = within_holds part b o i n w h e
step_holds (operator t) o i b n w h e = operator_holds (sign_of b) b o i t n w (sign_is b) h e

run_holds : (u w : List ℕ) (s t : State) → Holds s w → run s u ≡ Some t → Holds t (w ++ u)
run_holds [] w s t h e = reached s t (w ++ []) e (rw (append-nil w) h)
run_holds (b ∷ u) w s t h e = by_step (step s b) refl e (λ n k. run_holds u (w ++ (b ∷ [])) n t (step_holds s.stand s.outer s.inner b n w h k)) where
  by_step : (x : Option State) → step s b ≡ x → option_and_then (λ n. run n u) x ≡ Some t
      → ((n : State) → step s b ≡ Some n → run n u ≡ Some t → Holds t ((w ++ (b ∷ [])) ++ u)) → Holds t (w ++ (b ∷ u))
  by_step None g k rest = cc
  by_step (Some n) g k rest = rw (append_assoc w (b ∷ []) u) at (rest n g k)

-- what is read leads to the state
pub read_holds : (text : List ℕ) (s : State) → run start text ≡ Some s → Holds s text
read_holds text s e = run_holds text [] start s (record {
  heads = [];
  sum = [];
  last = [];
  is_heads = record { call_is = refl; first_is = refl; text_is = refl };
  is_sum = refl;
  is_last = record { own = []; spaces = 0; is_product = refl; text_is = refl };
  text_is = refl;
}) e
