-- Behind a factor or a term the text that was read leads to the reader's state.
use Rattle.std.proofs.Common.{◌≡◌, refl, ap, sym, ◌∙◌, arith, subst, ℕ, ◌+◌, List, [], ◌∷◌, ◌++◌, length, codes, Option, Some, None, append_assoc}
use Rattle.std.specs.Prelude.{◌==◌, option_and_then}
use Rattle.std.proofs.lemmas.Bool.Decides.{nat_tests}
use Rattle.std.proofs.lemmas.List.{append-nil, replicate_more}
use Rattle.std.specs.Str.Parse.{digits_value}
use Rattle.teg_calc.specs.declared.bytes.Sign.{Sign}
use Rattle.teg_calc.specs.declared.bytes.Sign.TheVariants.{Blank, Open, Close, Comma, Plus, Dot, Other}
use Rattle.teg_calc.specs.declared.brackets.Call.{Call}
use Rattle.teg_calc.specs.declared.brackets.Call.TheVariants.{Text, Group, Star as StarCall, Least as LeastCall, Left as LeftCall}
use Rattle.teg_calc.specs.declared.tokens.Part.{Part}
use Rattle.teg_calc.specs.declared.tokens.Part.TheVariants.{Letters, Unit as UnitPart, Name, Shift, Delta, Date}
use Rattle.teg_calc.specs.ExpressionTrees.{Tree, mono, unit}
use Rattle.teg_calc.specs.Grammar.{Blanks, AreDigits, FactorText, mono_token, e_word, blanks, spaced, mono_text, expr_text, term_text, factor_text, term_tree, factor_tree}
use Rattle.teg_calc.specs.Readers.{Level, level, State, state, operand, within, operator, nested, joined, multiplied, closed, factor_of, factored}
use Rattle.teg_calc.specs.Readers.{factored_outside, comma_step, close_step, operator_by}
use Rattle.teg_calc.proofs.Signs.{IsSign, is_blank, is_close, is_comma, is_plus, is_dot, decide}
use Rattle.teg_calc.proofs.Holding.{IsHead, IsHeads, IsInside, IsDeeper, IsSumText, IsProductText, IsPartText, IsCallHead, IsSecondHead, Holds}
use Rattle.teg_calc.proofs.Written.{IsFactorOf, IsTermOf, IsExprOf, with_product, with_sum, tight, closes, term_longer}

-- the one state that a byte leads to
pub reached : (x t : State) (w : List ℕ) → Some x ≡ Some t → Holds x w → Holds t w
reached x t w e h = let g : x ≡ t = cc in subst (λ z. Holds z w) g h

-- ---- into a bracket

-- the text inside a bracket that opens behind `own`
pub opens : (o : List Level) (i : Level) (c : Call) (w heads sum product own : List ℕ) → IsHeads o i.call i.first heads → IsSumText i.sum sum → IsProductText i.product product
    → IsHead c None own → w ≡ (heads ++ (sum ++ product)) ++ own → Holds (nested o i c) w
opens o i c w heads sum product own a b p h e = record {
  heads = w;
  sum = [];
  last = [];
  is_heads = record {
    outer = heads ++ (sum ++ product);
    own = own;
    is_outer = record { heads = heads; sum = sum; product = product; is_heads = a; is_sum = b; is_product = p; text_is = refl };
    is_own = h;
    text_is = e;
  };
  is_sum = refl;
  is_last = record { own = []; spaces = 0; is_product = refl; text_is = refl };
  text_is = sym (append-nil w);
}

-- one blank more
pub blank_more : (n : ℕ) → blanks (n + 1) ≡ blanks n ++ (32 ∷ [])
blank_more n = sym (replicate_more n 32)

-- ---- behind a factor

-- a whole factor
pub factor_holds : (o : List Level) (i : Level) (w heads sum own : List ℕ) (f : FactorText) → IsHeads o i.call i.first heads → IsSumText i.sum sum → IsProductText i.product own
    → w ≡ heads ++ (sum ++ (own ++ factor_text f)) → Holds (factored o i (factor_tree f)) w
factor_holds o i w heads sum own f a b p e =
    let t : IsTermOf (multiplied i.product (factor_tree f)) (own ++ factor_text f) = with_product i.product own p f in
    record {
      heads = heads;
      sum = sum;
      last = own ++ factor_text f;
      is_heads = a;
      is_sum = b;
      is_last = record { none = refl; written = t.written; tree_is = t.tree_is; text_is = sym t.text_is };
      text_is = e;
    }

-- a token behind its blanks
unfoldable pub spaced_token : (n : ℕ) → Blanks
spaced_token n = record { before = n; after = 0 }

pub token_text : (n : ℕ) (z : List ℕ) → spaced (spaced_token n) z ≡ blanks n ++ z
unfolding spaced_token
token_text n z = ap (λ (x : List ℕ). blanks n ++ x) (append-nil z)

-- a factor that is one token
token_holds : (o : List Level) (i : Level) (w : List ℕ) (part : Part) (z : List ℕ) (h : Holds (state o i (within part)) w) (f : FactorText)
    → factor_text f ≡ spaced (spaced_token h.is_last.spaces) z → w ≡ h.heads ++ (h.sum ++ (h.is_last.own ++ (blanks h.is_last.spaces ++ z))) → Holds (factored o i (factor_tree f)) w
token_holds o i w part z h f e g =
    factor_holds o i w h.heads h.sum h.is_last.own f h.is_heads h.is_sum h.is_last.is_product
    (g ∙ ap (λ (x : List ℕ). h.heads ++ (h.sum ++ (h.is_last.own ++ x))) (sym (token_text h.is_last.spaces z) ∙ sym e))

-- the text up to a token's last byte
pub with_byte : (o : List Level) (i : Level) (w : List ℕ) (part : Part) (h : Holds (state o i (within part)) w) (x : List ℕ)
    → w ++ x ≡ h.heads ++ (h.sum ++ (h.is_last.own ++ (blanks h.is_last.spaces ++ (h.is_last.token ++ x))))
with_byte o i w part h x = rw (h.text_is, h.is_last.text_is) (simp append_assoc)

-- a token with one byte more
pub part_more : (o : List Level) (i : Level) (w x : List ℕ) (part next : Part) (h : Holds (state o i (within part)) w)
    → IsPartText next (h.is_last.token ++ x) → Holds (state o i (within next)) (w ++ x)
part_more o i w x part next h p = record {
  heads = h.heads;
  sum = h.sum;
  last = h.is_last.own ++ (blanks h.is_last.spaces ++ (h.is_last.token ++ x));
  is_heads = h.is_heads;
  is_sum = h.is_sum;
  is_last = record { own = h.is_last.own; spaces = h.is_last.spaces; token = h.is_last.token ++ x; is_product = h.is_last.is_product; is_token = p; text_is = refl };
  text_is = with_byte o i w part h x;
}

-- a token that may end is a factor
pub ends_holds : (o : List Level) (i : Level) (w : List ℕ) (part : Part) (f : Tree) → Holds (state o i (within part)) w → factor_of part ≡ Some f → Holds (factored o i f) w
unfolding spaced_token
ends_holds o i w (Letters word read) f h e = cc
ends_holds o i w UnitPart f h e =
    let g : unit ≡ f = cc in
    subst (λ z. Holds (factored o i z) w) g
    (token_holds o i w UnitPart (codes "e") h (e_word (spaced_token h.is_last.spaces)) refl
    (rw (h.text_is, h.is_last.text_is, h.is_last.is_token) refl))
ends_holds o i w (Name call) f h e = cc
ends_holds o i w (Shift count value) f h e = cc
ends_holds o i w (Delta shift) f h e = cc
ends_holds o i w (Date shift minus count value) f h e = decide (count == 0) (λ z. let none : None ≡ Some f = rw z at e in cc) (λ z.
    let some : Some (mono shift minus value) ≡ Some f = rw z at e in
    let g : mono shift minus value ≡ f = cc in
    let d = h.is_last.is_token in
    let c : length d.date ≡ count = d.date_are.count_is in
    let are : AreDigits d.date = record { numeral = (grind (arith, nat_tests), d.date_are.digits_are); few = omega (arith, d.date_are.few) } in
    let tree : mono (digits_value 10 d.digits) minus (digits_value 10 d.date) ≡ mono shift minus value = rw (d.value_is, d.date_are.value_is) refl in
    subst (λ x. Holds (factored o i x) w) (tree ∙ g)
    (token_holds o i w (Date shift minus count value) (mono_text d.digits minus d.date) h (mono_token (spaced_token h.is_last.spaces) d.digits d.are minus d.date are) refl
    (rw (h.text_is, h.is_last.text_is, d.text_is) refl)))

-- ---- behind a term

-- the whole sum in the innermost bracket
pub sum_of : (o : List Level) (i : Level) (t : Tree) (w : List ℕ) (h : Holds (state o i (operator t)) w) → IsExprOf (joined i.sum t) (h.sum ++ h.last)
sum_of o i t w h =
    let s : IsExprOf (joined i.sum (term_tree h.is_last.written)) (h.sum ++ term_text h.is_last.written) = with_sum i.sum h.sum h.is_sum h.is_last.written in
    record { written = s.written; tree_is = s.tree_is ∙ ap (joined i.sum) h.is_last.tree_is; text_is = s.text_is ∙ ap (λ (x : List ℕ). h.sum ++ x) (sym h.is_last.text_is) }

-- behind a comma
comma_holds : (o : List Level) (m : Level) (c : Call) (name : List ℕ) (a : Tree) (w heads inner : List ℕ) → IsDeeper (IsInside (IsHeads o m.call m.first) m) (IsCallHead name) heads
    → IsExprOf a inner → w ≡ heads ++ inner → ((own : List ℕ) → IsSecondHead name a own → IsHead c (Some a) own)
    → Holds (state (m ∷ o) (level c (Some a) None None) operand) (w ++ (44 ∷ []))
unfolding tight
comma_holds o m c name a w heads inner d s e made = record {
  heads = w ++ (44 ∷ []);
  sum = [];
  last = [];
  is_heads = record {
    outer = d.outer;
    own = d.own ++ (inner ++ (44 ∷ []));
    is_outer = d.is_outer;
    is_own = made (d.own ++ (inner ++ (44 ∷ []))) (record {
      before = d.is_own.before;
      inside = d.is_own.inside;
      comma = tight;
      written = s.written;
      tree_is = s.tree_is;
      text_is = rw (d.is_own.text_is, ← s.text_is) (simp append_assoc);
    });
    text_is = rw (e, d.text_is) (simp append_assoc);
  };
  is_sum = refl;
  is_last = record { own = []; spaces = 0; is_product = refl; text_is = refl };
  text_is = sym (append-nil (w ++ (44 ∷ [])));
}

-- a comma behind the first operand of a call
comma_step_holds : (o : List Level) (c : Call) (first sum product : Option Tree) (t : Tree) (n : State) (w : List ℕ) → Holds (state o (level c first sum product) (operator t)) w
    → comma_step o (level c first sum product) t ≡ Some n → Holds n (w ++ (44 ∷ []))
comma_step_holds o Text first sum product t n w h e = cc
comma_step_holds o Group first sum product t n w h e = cc
comma_step_holds o StarCall first sum product t n w h e = cc
comma_step_holds [] LeastCall None sum product t n w h e = let g : LeastCall ≡ Text = h.is_heads.call_is in cc
comma_step_holds (m ∷ o) LeastCall None sum product t n w h e =
    reached _ n (w ++ (44 ∷ [])) e
    (comma_holds o m LeastCall (codes "min") (joined sum t) w h.heads (h.sum ++ h.last) h.is_heads (sum_of (m ∷ o) (level LeastCall None sum product) t w h) h.text_is (λ own k. k))
comma_step_holds o LeastCall (Some a) sum product t n w h e = cc
comma_step_holds [] LeftCall None sum product t n w h e = let g : LeftCall ≡ Text = h.is_heads.call_is in cc
comma_step_holds (m ∷ o) LeftCall None sum product t n w h e =
    reached _ n (w ++ (44 ∷ [])) e
    (comma_holds o m LeftCall (codes "left") (joined sum t) w h.heads (h.sum ++ h.last) h.is_heads (sum_of (m ∷ o) (level LeftCall None sum product) t w h) h.text_is (λ own k. k))
comma_step_holds o LeftCall (Some a) sum product t n w h e = cc

-- the text with the bracket that closes
closed_text : (w heads sum last outer own oh os op ft et : List ℕ) → w ≡ heads ++ (sum ++ last) → heads ≡ outer ++ own → outer ≡ oh ++ (os ++ op) → et ≡ sum ++ last
    → ft ≡ own ++ (et ++ codes ")") → w ++ (41 ∷ []) ≡ oh ++ (os ++ (op ++ ft))
closed_text w heads sum last outer own oh os op ft et a b c d e = rw (a, b, c, e, d) (simp append_assoc)

-- a bracket closed behind its last operand
close_factor : (o : List Level) (i : Level) (t e : Tree) (n : State) (w : List ℕ) → Holds (state o i (operator t)) w → closed i.call i.first (joined i.sum t) ≡ Some e
    → factored_outside o e ≡ Some n → Holds n (w ++ (41 ∷ []))
close_factor [] i t e n w h g k = cc
close_factor (m ∷ o) i t e n w h g k =
    let s : IsExprOf (joined i.sum t) (h.sum ++ h.last) = sum_of (m ∷ o) i t w h in
    let d = h.is_heads in
    let f : IsFactorOf e (d.own ++ (expr_text s.written ++ codes ")")) = closes i.call i.first d.own s.written e d.is_own (ap (closed i.call i.first) s.tree_is ∙ g) in
    reached _ n (w ++ (41 ∷ [])) k
    (subst (λ z. Holds (factored o m z) (w ++ (41 ∷ []))) f.tree_is
    (factor_holds o m (w ++ (41 ∷ [])) d.is_outer.heads d.is_outer.sum d.is_outer.product f.written d.is_outer.is_heads d.is_outer.is_sum d.is_outer.is_product
    (closed_text w h.heads h.sum h.last d.outer d.own d.is_outer.heads d.is_outer.sum d.is_outer.product (factor_text f.written)
    (expr_text s.written) h.text_is d.text_is d.is_outer.text_is s.text_is f.text_is)))

close_step_holds : (o : List Level) (i : Level) (t : Tree) (n : State) (w : List ℕ) → Holds (state o i (operator t)) w
    → close_step o i t ≡ Some n → Holds n (w ++ (41 ∷ []))
close_step_holds o i t n w h e = by_factor (closed i.call i.first (joined i.sum t)) refl e where
  by_factor : (x : Option Tree) → closed i.call i.first (joined i.sum t) ≡ x → option_and_then (factored_outside o) x ≡ Some n → Holds n (w ++ (41 ∷ []))
  by_factor None g k = cc
  by_factor (Some f) g k = close_factor o i t f n w h g k

-- one blank behind a term
blank_behind : (o : List Level) (i : Level) (t : Tree) (w : List ℕ) → Holds (state o i (operator t)) w → Holds (state o i (operator t)) (w ++ (32 ∷ []))
blank_behind o i t w h =
    let l : IsTermOf (term_tree h.is_last.written) (term_text h.is_last.written ++ (32 ∷ [])) = term_longer h.is_last.written in
    record {
      heads = h.heads;
      sum = h.sum;
      last = h.last ++ (32 ∷ []);
      is_heads = h.is_heads;
      is_sum = h.is_sum;
      is_last = record {
        none = h.is_last.none;
        written = l.written;
        tree_is = l.tree_is ∙ h.is_last.tree_is;
        text_is = ap (λ (x : List ℕ). x ++ (32 ∷ [])) h.is_last.text_is ∙ sym l.text_is;
      };
      text_is = rw h.text_is (simp append_assoc);
    }

-- a `+` behind a term
plus_behind : (o : List Level) (i : Level) (t : Tree) (w : List ℕ) → Holds (state o i (operator t)) w
    → Holds (state o (level i.call i.first (Some (joined i.sum t)) None) operand) (w ++ (43 ∷ []))
unfolding tight
plus_behind o i t w h =
    let s : IsExprOf (joined i.sum t) (h.sum ++ h.last) = sum_of o i t w h in
    record {
      heads = h.heads;
      sum = (h.sum ++ h.last) ++ (43 ∷ []);
      last = [];
      is_heads = h.is_heads;
      is_sum = record { written = s.written; sign = tight; tree_is = s.tree_is; text_is = ap (λ (x : List ℕ). x ++ (43 ∷ [])) (sym s.text_is) };
      is_last = record { own = []; spaces = 0; is_product = refl; text_is = refl };
      text_is = rw h.text_is (simp (append_assoc, append-nil));
    }

-- a `.` behind a term
dot_behind : (o : List Level) (i : Level) (t : Tree) (w : List ℕ) → Holds (state o i (operator t)) w
    → Holds (state o (level i.call i.first i.sum (Some t)) operand) (w ++ (46 ∷ []))
unfolding tight
dot_behind o i t w h = record {
  heads = h.heads;
  sum = h.sum;
  last = h.last ++ (46 ∷ []);
  is_heads = h.is_heads;
  is_sum = h.is_sum;
  is_last = record {
    own = h.last ++ (46 ∷ []);
    spaces = 0;
    is_product = record { written = h.is_last.written; sign = tight; tree_is = h.is_last.tree_is; text_is = ap (λ (x : List ℕ). x ++ (46 ∷ [])) h.is_last.text_is };
    text_is = sym (append-nil (h.last ++ (46 ∷ [])));
  };
  text_is = rw h.text_is (simp append_assoc);
}

pub operator_holds : (g : Sign) (b : ℕ) (o : List Level) (i : Level) (t : Tree) (n : State) (w : List ℕ) → IsSign b g → Holds (state o i (operator t)) w
    → operator_by g o i t ≡ Some n → Holds n (w ++ (b ∷ []))
operator_holds Blank b o i t n w (is_blank v) h e = rw v (reached _ n _ e (blank_behind o i t w h))
operator_holds Open b o i t n w s h e = cc
operator_holds Close b o i t n w (is_close v) h e = rw v (close_step_holds o i t n w h e)
operator_holds Comma b o i t n w (is_comma v) h e = rw v (comma_step_holds o i.call i.first i.sum i.product t n w h e)
operator_holds Plus b o i t n w (is_plus v) h e = rw v (reached _ n _ e (plus_behind o i t w h))
operator_holds Dot b o i t n w (is_dot v) h e = rw v (reached _ n _ e (dot_behind o i t w h))
operator_holds Other b o i t n w s h e = cc
