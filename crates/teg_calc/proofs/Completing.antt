-- Each text that the reader takes is a prefix of an expression, and a whole one is an expression.
use Rattle.std.proofs.Common.{◌≡◌, refl, ap, sym, ◌∙◌, arith, ℕ, false, List, [], ◌∷◌, ◌++◌, length, drop, codes, Option, Some, None, append_assoc}
use Rattle.std.specs.Prelude.{option_map}
use Rattle.std.proofs.lemmas.List.{append-nil, take-append-drop}
use Rattle.teg_calc.specs.declared.brackets.Call.TheVariants.{Text, Group, Star as StarCall, Least as LeastCall, Left as LeftCall}
use Rattle.teg_calc.specs.declared.tokens.Word.{Word}
use Rattle.teg_calc.specs.declared.tokens.Word.TheVariants.{Eps, Never as NeverWord, Star as StarWord, Min, Left as LeftWord}
use Rattle.teg_calc.specs.declared.tokens.Part.{Part}
use Rattle.teg_calc.specs.declared.tokens.Part.TheVariants.{Letters, Unit as UnitPart, Name, Shift, Delta, Date}
use Rattle.teg_calc.specs.ExpressionTrees.{Tree}
use Rattle.teg_calc.specs.Grammar.{Blanks, AreDigits, FactorText, term, factor, mono_token, eps_word, e_word, never_word, star_of, min_of, left_of}
use Rattle.teg_calc.specs.Grammar.{blanks, expr_text, term_text, factor_text, term_tree, factor_tree, IsExpression, IsBegun}
use Rattle.teg_calc.specs.Readers.{Level, Stand, State, state, start, operand, within, operator, joined, multiplied, letters_of, factor_of, term_of, finish_by, finish}
use Rattle.teg_calc.proofs.Holding.{AreDigitsOf, IsPartText, Holds}
use Rattle.teg_calc.proofs.Written.{IsTermOf, IsExprOf, IsCompleted, with_product, with_sum, completed, tight}
use Rattle.teg_calc.proofs.Behind.{sum_of, ends_holds}
use Rattle.teg_calc.proofs.Stepping.{read_holds}
use Rattle.teg_calc.proofs.TextRuns.{run}

-- ---- tokens

-- a factor that begins with the token
record IsWholeToken (spaces : ℕ) (token : List ℕ) : Type 0 where
  written : FactorText
  rest : List ℕ
  text_is : factor_text written ≡ blanks spaces ++ (token ++ rest)

-- blanks before a token, none behind it
spaced_only : ℕ → ℕ → Blanks
spaced_only n m = record { before = n; after = m }

word_whole : (word : Word) (n : ℕ) (token rest : List ℕ) → token ++ rest ≡ letters_of word → IsWholeToken n token
unfolding spaced_only tight
word_whole Eps n token rest e = record { written = eps_word (spaced_only n 0); rest = rest; text_is = rw e (simp append-nil) }
word_whole NeverWord n token rest e = record { written = never_word (spaced_only n 0); rest = rest; text_is = rw e (simp append-nil) }
word_whole StarWord n token rest e = record {
  written = star_of (spaced_only n 0) tight (term (factor (e_word tight))) tight;
  rest = rest ++ codes "(e)";
  text_is = rw (← append_assoc token rest (codes "(e)"), e) (simp append_assoc);
}
word_whole Min n token rest e = record {
  written = min_of (spaced_only n 0) tight (term (factor (e_word tight))) tight (term (factor (e_word tight))) tight;
  rest = rest ++ codes "(e,e)";
  text_is = rw (← append_assoc token rest (codes "(e,e)"), e) (simp append_assoc);
}
word_whole LeftWord n token rest e = record {
  written = left_of (spaced_only n 0) tight (term (factor (e_word tight))) tight (term (factor (e_word tight))) tight;
  rest = rest ++ codes "(e,e)";
  text_is = rw (← append_assoc token rest (codes "(e,e)"), e) (simp append_assoc);
}

-- one digit, or these digits
record IsNumberBegun (digits : List ℕ) : Type 0 where
  rest : List ℕ
  are : AreDigits (digits ++ rest)

number_begun : (count value : ℕ) (digits : List ℕ) → AreDigitsOf count value digits → IsNumberBegun digits
number_begun count value [] h = record { rest = codes "0"; are = record { numeral = (omega arith, (omega arith, tt)); few = omega arith } }
number_begun count value (d ∷ ds) h =
    let c : length (d ∷ ds) ≡ count = h.count_is in
    record { rest = []; are = rw (append-nil (d ∷ ds)) (record { numeral = (omega arith, h.digits_are); few = omega (arith, h.few) }) }

one_zero : AreDigits (codes "0")
one_zero = record { numeral = (omega arith, (omega arith, tt)); few = omega arith }

token_whole : (part : Part) (n : ℕ) (token : List ℕ) → IsPartText part token → IsWholeToken n token
unfolding spaced_only tight
token_whole (Letters word read) n token h = word_whole word n token (drop read (letters_of word)) (rw h.text_is (take-append-drop read (letters_of word)))
token_whole UnitPart n token h = record { written = e_word (spaced_only n 0); rest = []; text_is = rw h (simp append-nil) }
token_whole (Name Text) n token h = absurd h
token_whole (Name Group) n token h = absurd h
token_whole (Name StarCall) n token h = record {
  written = star_of (spaced_only n h.after) tight (term (factor (e_word tight))) tight;
  rest = codes "(e)";
  text_is = rw h.text_is (simp append_assoc);
}
token_whole (Name LeastCall) n token h = record {
  written = min_of (spaced_only n h.after) tight (term (factor (e_word tight))) tight (term (factor (e_word tight))) tight;
  rest = codes "(e,e)";
  text_is = rw h.text_is (simp append_assoc);
}
token_whole (Name LeftCall) n token h = record {
  written = left_of (spaced_only n h.after) tight (term (factor (e_word tight))) tight (term (factor (e_word tight))) tight;
  rest = codes "(e,e)";
  text_is = rw h.text_is (simp append_assoc);
}
token_whole (Shift count value) n token h =
    let b : IsNumberBegun h.digits = number_begun count value h.digits h.are in
    record {
      written = mono_token (spaced_only n 0) (h.digits ++ b.rest) b.are false (codes "0") one_zero;
      rest = b.rest ++ codes "d0";
      text_is = rw h.text_is (simp (append_assoc, append-nil));
    }
token_whole (Delta shift) n token h = record {
  written = mono_token (spaced_only n 0) h.digits h.are false (codes "0") one_zero;
  rest = codes "0";
  text_is = rw h.text_is (simp (append_assoc, append-nil));
}
token_whole (Date shift minus count value) n token h =
    let b : IsNumberBegun h.date = number_begun count value h.date h.date_are in
    record {
      written = mono_token (spaced_only n 0) h.digits h.are minus (h.date ++ b.rest) b.are;
      rest = b.rest;
      text_is = rw h.text_is (simp (append_assoc, append-nil));
    }

-- ---- texts

-- behind a factor that is written out
factor_completed : (o : List Level) (i : Level) (stand : Stand) (w own rest : List ℕ) (h : Holds (state o i stand) w) (f : FactorText)
    → (t : IsTermOf (multiplied i.product (factor_tree f)) (own ++ factor_text f))
    → h.last ++ rest ≡ own ++ factor_text f → IsBegun w
factor_completed o i stand w own rest h f t e =
    let a : IsExprOf (joined i.sum (term_tree t.written)) (h.sum ++ term_text t.written) = with_sum i.sum h.sum h.is_sum t.written in
    let c : IsCompleted (h.heads ++ expr_text a.written) = completed o i.call i.first h.heads h.is_heads a.written in
    record {
      rest = rest ++ c.rest;
      tree = c.tree;
      whole = record {
        written = c.whole.written;
        text_is = c.whole.text_is ∙ rw (a.text_is, t.text_is, ← e, h.text_is) (simp append_assoc);
        tree_is = c.whole.tree_is;
      };
    }

begun_by_stand : (stand : Stand) (o : List Level) (i : Level) (w : List ℕ) → Holds (state o i stand) w → IsBegun w
unfolding spaced_only
begun_by_stand operand o i w h =
    let f : FactorText = e_word (spaced_only h.is_last.spaces 0) in
    factor_completed o i operand w h.is_last.own (codes "e") h f (with_product i.product h.is_last.own h.is_last.is_product f)
    (rw h.is_last.text_is (simp append_assoc))
begun_by_stand (within part) o i w h =
    let t : IsWholeToken h.is_last.spaces h.is_last.token = token_whole part h.is_last.spaces h.is_last.token h.is_last.is_token in
    factor_completed o i (within part) w h.is_last.own t.rest h t.written (with_product i.product h.is_last.own h.is_last.is_product t.written)
    (rw (h.is_last.text_is, t.text_is) (simp append_assoc))
begun_by_stand (operator t) o i w h =
    let s : IsExprOf (joined i.sum t) (h.sum ++ h.last) = sum_of o i t w h in
    let c : IsCompleted (h.heads ++ expr_text s.written) = completed o i.call i.first h.heads h.is_heads s.written in
    record {
      rest = c.rest;
      tree = c.tree;
      whole = record {
        written = c.whole.written;
        text_is = c.whole.text_is ∙ (ap (λ (x : List ℕ). (h.heads ++ x) ++ c.rest) s.text_is ∙ ap (λ (x : List ℕ). x ++ c.rest) (sym h.text_is));
        tree_is = c.whole.tree_is;
      };
    }

-- a text that the reader takes is a prefix of an expression
pub begun_is : (text : List ℕ) (s : State) → run start text ≡ Some s → IsBegun text
begun_is text s e = begun_by_stand s.stand s.outer s.inner text (read_holds text s e)

behind_whole : (i : Level) (t e : Tree) (w : List ℕ) → Holds (state [] i (operator t)) w → joined i.sum t ≡ e → IsExpression w e
behind_whole i t e w h g =
    let s : IsExprOf (joined i.sum t) (h.sum ++ h.last) = sum_of [] i t w h in
    record { written = s.written; text_is = s.text_is ∙ sym (h.text_is ∙ ap (λ (x : List ℕ). x ++ (h.sum ++ h.last)) h.is_heads.text_is); tree_is = s.tree_is ∙ g }

whole_by_stand : (stand : Stand) (o : List Level) (i : Level) (w : List ℕ) (e : Tree) → Holds (state o i stand) w → finish_by o i.sum (term_of stand i.product) ≡ Some e → IsExpression w e
whole_by_stand stand (m ∷ o) i w e h g = cc
whole_by_stand operand [] i w e h g = cc
whole_by_stand (operator t) [] i w e h g = let k : joined i.sum t ≡ e = cc in behind_whole i t e w h k
whole_by_stand (within part) [] i w e h g = by_factor (factor_of part) refl g where
  by_factor : (x : Option Tree) → factor_of part ≡ x → option_map (joined i.sum) (option_map (multiplied i.product) x) ≡ Some e → IsExpression w e
  by_factor None k l = cc
  by_factor (Some f) k l =
      let j : joined i.sum (multiplied i.product f) ≡ e = cc in
      behind_whole _ _ e w (ends_holds [] i w part f h k) j

-- a whole text is an expression
pub whole_is : (text : List ℕ) (s : State) (e : Tree) → run start text ≡ Some s → finish s ≡ Some e → IsExpression text e
whole_is text s e h g = whole_by_stand s.stand s.outer s.inner text e (read_holds text s h) g
