-- The grammar of expressions: how an expression is written, the text of what is written and its tree.
--
--     expr   = term { "+" term }
--     term   = factor { "." factor }
--     factor = mono | "eps" | "e" | "never" | "(" expr ")" | "star" "(" expr ")"
--            | "min" "(" expr "," expr ")" | "left" "(" expr "," expr ")"
--     mono   = "g" digits "d" [ "-" ] digits
--
-- Digits are 1 to 19 decimal digits. Blanks may stand before and after each token. `+` and `.` group to the left.
use Rattle.std.specs.Prelude.{◌≡◌, ℕ, ◌≤◌, Bool, true, false, List, [], ◌++◌, length, replicate, codes}
use Rattle.std.specs.Str.Parse.{IsNumeral, digits_value}
use Rattle.teg_calc.specs.ExpressionTrees.{Tree, mono, epsilon, unit, never, plus, times, star, least, left}

-- how many blanks stand before and after a token
pub record Blanks : Type 0 where
  pub before : ℕ
  pub after : ℕ

-- 1 to 19 decimal digits
pub record AreDigits (digits : List ℕ) : Type 0 where
  pub numeral : IsNumeral 10 digits
  pub few : length digits ≤ 19

-- how a term follows a sum, a factor follows a product, and what a factor is; each token with its blanks
mutual
  pub data ExprText : Type 0 where
    term : TermText → ExprText
    plus_term : ExprText → Blanks → TermText → ExprText

  pub data TermText : Type 0 where
    factor : FactorText → TermText
    times_factor : TermText → Blanks → FactorText → TermText

  pub data FactorText : Type 0 where
    mono_token : Blanks → (shift : List ℕ) → AreDigits shift → (minus : Bool) → (date : List ℕ) → AreDigits date → FactorText
    eps_word : Blanks → FactorText
    e_word : Blanks → FactorText
    never_word : Blanks → FactorText
    bracketed : Blanks → ExprText → Blanks → FactorText
    star_of : Blanks → Blanks → ExprText → Blanks → FactorText
    min_of : Blanks → Blanks → ExprText → Blanks → ExprText → Blanks → FactorText
    left_of : Blanks → Blanks → ExprText → Blanks → ExprText → Blanks → FactorText

-- a text of n blanks
abbrev pub blanks : ℕ → List ℕ
blanks n = replicate n 32

-- the text of a token with its blanks
abbrev pub spaced : Blanks → List ℕ → List ℕ
spaced p token = blanks p.before ++ (token ++ blanks p.after)

-- a minus, where there is one
abbrev pub minus_text : Bool → List ℕ
minus_text true = codes "-"
minus_text false = []

-- the text of a monomial
abbrev pub mono_text : List ℕ → Bool → List ℕ → List ℕ
mono_text shift minus date = codes "g" ++ (shift ++ (codes "d" ++ (minus_text minus ++ date)))

-- the text of an expression, of a term and of a factor
abbrev mutual
  pub expr_text : ExprText → List ℕ
  expr_text (term t) = term_text t
  expr_text (plus_term a p t) = expr_text a ++ (spaced p (codes "+") ++ term_text t)

  pub term_text : TermText → List ℕ
  term_text (factor f) = factor_text f
  term_text (times_factor t p f) = term_text t ++ (spaced p (codes ".") ++ factor_text f)

  pub factor_text : FactorText → List ℕ
  factor_text (mono_token p shift is_shift minus date is_date) = spaced p (mono_text shift minus date)
  factor_text (eps_word p) = spaced p (codes "eps")
  factor_text (e_word p) = spaced p (codes "e")
  factor_text (never_word p) = spaced p (codes "never")
  factor_text (bracketed p a q) = spaced p (codes "(") ++ (expr_text a ++ spaced q (codes ")"))
  factor_text (star_of n p a q) = spaced n (codes "star") ++ (spaced p (codes "(") ++ (expr_text a ++ spaced q (codes ")")))
  factor_text (min_of n p a c b q) = spaced n (codes "min") ++ (spaced p (codes "(") ++ (expr_text a ++ (spaced c (codes ",") ++ (expr_text b ++ spaced q (codes ")")))))
  factor_text (left_of n p a c b q) = spaced n (codes "left") ++ (spaced p (codes "(") ++ (expr_text a ++ (spaced c (codes ",") ++ (expr_text b ++ spaced q (codes ")")))))

-- the tree of an expression, of a term and of a factor
abbrev mutual
  pub expr_tree : ExprText → Tree
  expr_tree (term t) = term_tree t
  expr_tree (plus_term a p t) = plus (expr_tree a) (term_tree t)

  pub term_tree : TermText → Tree
  term_tree (factor f) = factor_tree f
  term_tree (times_factor t p f) = times (term_tree t) (factor_tree f)

  pub factor_tree : FactorText → Tree
  factor_tree (mono_token p shift is_shift minus date is_date) = mono (digits_value 10 shift) minus (digits_value 10 date)
  factor_tree (eps_word p) = epsilon
  factor_tree (e_word p) = unit
  factor_tree (never_word p) = never
  factor_tree (bracketed p a q) = expr_tree a
  factor_tree (star_of n p a q) = star (expr_tree a)
  factor_tree (min_of n p a c b q) = least (expr_tree a) (expr_tree b)
  factor_tree (left_of n p a c b q) = left (expr_tree a) (expr_tree b)

-- the text is an expression of this tree
pub record IsExpression (text : List ℕ) (tree : Tree) : Type 0 where
  pub written : ExprText
  pub text_is : expr_text written ≡ text
  pub tree_is : expr_tree written ≡ tree

-- the text is a prefix of some expression, of any length
pub record IsBegun (text : List ℕ) : Type 0 where
  pub rest : List ℕ
  pub tree : Tree
  pub whole : IsExpression (text ++ rest) tree
