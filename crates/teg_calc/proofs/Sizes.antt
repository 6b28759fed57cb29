-- A tree has at most as many nodes as its text has bytes, and its numbers are short.
use Rattle.std.proofs.Common.{arith, ℕ, ◌+◌, ◌^◌, ◌<◌, ◌≤◌, List, length, codes, ◌++◌}
use Rattle.std.proofs.lemmas.List.{length-append}
use Rattle.std.proofs.Math.Nat.{pow-le-pow_right}
use Rattle.std.proofs.lemmas.Int.Digits.{digits_value-lt}
use Rattle.std.specs.Str.Parse.{digits_value}
use Rattle.teg_calc.specs.ExpressionTrees.{Tree, node_count, HasShortNumbers}
use Rattle.teg_calc.specs.Grammar.{Blanks, AreDigits, ExprText, TermText, FactorText, term, plus_term, factor, times_factor, mono_token, eps_word}
use Rattle.teg_calc.specs.Grammar.{e_word, never_word, bracketed, star_of, min_of, left_of, spaced, mono_text, expr_text, term_text, factor_text}
use Rattle.teg_calc.specs.Grammar.{expr_tree, term_tree, factor_tree, IsExpression}

short_number : (digits : List ℕ) → AreDigits digits → digits_value 10 digits < 10 ^ 19
short_number digits h =
    let low : digits_value 10 digits < 10 ^ length digits = digits_value-lt 10 digits h.numeral.1 in
    let few : 10 ^ length digits ≤ 10 ^ 19 = pow-le-pow_right {n = 10} (omega arith) {i = length digits} {j = 19} h.few in
    omega arith

mutual
  expr_short : (a : ExprText) → HasShortNumbers (expr_tree a)
  expr_short (term t) = term_short t
  expr_short (plus_term a p t) = (expr_short a, term_short t)

  term_short : (t : TermText) → HasShortNumbers (term_tree t)
  term_short (factor f) = factor_short f
  term_short (times_factor t p f) = (term_short t, factor_short f)

  factor_short : (f : FactorText) → HasShortNumbers (factor_tree f)
  factor_short (mono_token p shift a minus date b) = (short_number shift a, short_number date b)
  factor_short (eps_word p) = tt
  factor_short (e_word p) = tt
  factor_short (never_word p) = tt
  factor_short (bracketed p a q) = expr_short a
  factor_short (star_of n p a q) = expr_short a
  factor_short (min_of n p a c b q) = (expr_short a, expr_short b)
  factor_short (left_of n p a c b q) = (expr_short a, expr_short b)

-- a token is within its text
spaced_long : (p : Blanks) (token : List ℕ) → length token ≤ length (spaced p token)
spaced_long p token = simp length-append (omega arith)

two_long : (a b : ℕ) (x y z : List ℕ) → a ≤ length x → b ≤ length z → 1 ≤ length y → a + b + 1 ≤ length (x ++ (y ++ z))
two_long a b x y z h g e = simp length-append (omega arith)

mutual
  expr_small : (a : ExprText) → node_count (expr_tree a) ≤ length (expr_text a)
  expr_small (term t) = term_small t
  expr_small (plus_term a p t) = two_long _ _ (expr_text a) (spaced p (codes "+")) (term_text t) (expr_small a) (term_small t) (spaced_long p (codes "+"))

  term_small : (t : TermText) → node_count (term_tree t) ≤ length (term_text t)
  term_small (factor f) = factor_small f
  term_small (times_factor t p f) = two_long _ _ (term_text t) (spaced p (codes ".")) (factor_text f) (term_small t) (factor_small f) (spaced_long p (codes "."))

  factor_small : (f : FactorText) → node_count (factor_tree f) ≤ length (factor_text f)
  factor_small (mono_token p shift a minus date b) =
      let h : length (mono_text shift minus date) ≤ length (spaced p (mono_text shift minus date)) = spaced_long p (mono_text shift minus date) in omega arith
  factor_small (eps_word p) = let h : length (codes "eps") ≤ length (spaced p (codes "eps")) = spaced_long p (codes "eps") in omega arith
  factor_small (e_word p) = spaced_long p (codes "e")
  factor_small (never_word p) = let h : length (codes "never") ≤ length (spaced p (codes "never")) = spaced_long p (codes "never") in omega arith
  factor_small (bracketed p a q) = let h : node_count (expr_tree a) ≤ length (expr_text a) = expr_small a in simp length-append (omega arith)
  factor_small (star_of n p a q) = let h : node_count (expr_tree a) ≤ length (expr_text a) = expr_small a in simp length-append (omega arith)
  factor_small (min_of n p a c b q) =
      let h : node_count (expr_tree a) ≤ length (expr_text a) = expr_small a in
      let g : node_count (expr_tree b) ≤ length (expr_text b) = expr_small b in
      simp length-append (omega arith)
  factor_small (left_of n p a c b q) =
      let h : node_count (expr_tree a) ≤ length (expr_text a) = expr_small a in
      let g : node_count (expr_tree b) ≤ length (expr_text b) = expr_small b in
      simp length-append (omega arith)

pub has_short : (text : List ℕ) (e : Tree) → IsExpression text e → HasShortNumbers e
has_short text e h = let k : HasShortNumbers (expr_tree h.written) = expr_short h.written in rw h.tree_is at k

pub has_few : (text : List ℕ) (e : Tree) → IsExpression text e → node_count e ≤ length text
has_few text e h = rw (← h.tree_is, ← h.text_is) (expr_small h.written)
