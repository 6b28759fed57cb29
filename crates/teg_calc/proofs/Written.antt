-- Terms, sums and brackets that are written out behind what was read.
use Rattle.std.proofs.Common.{◌≡◌, refl, ap, sym, ◌∙◌, ℕ, ◌+◌, List, [], ◌∷◌, ◌++◌, codes, append_assoc, Option, Some, None}
use Rattle.std.proofs.lemmas.List.{append-nil, replicate_more}
use Rattle.teg_calc.specs.declared.brackets.Call.{Call}
use Rattle.teg_calc.specs.declared.brackets.Call.TheVariants.{Text, Group, Star as StarCall, Least as LeastCall, Left as LeftCall}
use Rattle.teg_calc.specs.ExpressionTrees.{Tree, plus, times}
use Rattle.teg_calc.specs.Grammar.{Blanks, ExprText, TermText, FactorText, term, plus_term, factor, times_factor, mono_token, eps_word, e_word}
use Rattle.teg_calc.specs.Grammar.{never_word, bracketed, star_of, min_of, left_of, blanks, spaced, mono_text, expr_text, term_text, factor_text}
use Rattle.teg_calc.specs.Grammar.{expr_tree, term_tree, factor_tree, IsExpression}
use Rattle.teg_calc.specs.Readers.{Level, joined, multiplied, closed}
use Rattle.teg_calc.proofs.Holding.{IsHead, IsSumText, IsProductText, IsHeads}

pub record IsFactorOf (t : Tree) (w : List ℕ) : Type 0 where
  pub written : FactorText
  pub tree_is : factor_tree written ≡ t
  pub text_is : factor_text written ≡ w

pub record IsTermOf (t : Tree) (w : List ℕ) : Type 0 where
  pub written : TermText
  pub tree_is : term_tree written ≡ t
  pub text_is : term_text written ≡ w

pub record IsExprOf (t : Tree) (w : List ℕ) : Type 0 where
  pub written : ExprText
  pub tree_is : expr_tree written ≡ t
  pub text_is : expr_text written ≡ w

-- a factor behind a product
pub with_product : (product : Option Tree) (own : List ℕ) → IsProductText product own → (f : FactorText) → IsTermOf (multiplied product (factor_tree f)) (own ++ factor_text f)
with_product None own h f = record { written = factor f; tree_is = refl; text_is = rw h refl }
with_product (Some a) own h f = record {
  written = times_factor h.written h.sign f;
  tree_is = ap (λ z. times z (factor_tree f)) h.tree_is;
  text_is = sym (append_assoc (term_text h.written) (spaced h.sign (codes ".")) (factor_text f)) ∙ ap (λ (z : List ℕ). z ++ factor_text f) (sym h.text_is);
}

-- a term behind a sum
pub with_sum : (sum : Option Tree) (own : List ℕ) → IsSumText sum own → (t : TermText) → IsExprOf (joined sum (term_tree t)) (own ++ term_text t)
with_sum None own h t = record { written = term t; tree_is = refl; text_is = rw h refl }
with_sum (Some a) own h t = record {
  written = plus_term h.written h.sign t;
  tree_is = ap (λ z. plus z (term_tree t)) h.tree_is;
  text_is = sym (append_assoc (expr_text h.written) (spaced h.sign (codes "+")) (term_text t)) ∙ ap (λ (z : List ℕ). z ++ term_text t) (sym h.text_is);
}

-- no blanks
unfoldable pub tight : Blanks
tight = record { before = 0; after = 0 }

-- a bracket that closes behind its last operand is a factor
pub closes : (call : Call) (first : Option Tree) (own : List ℕ) (last : ExprText) (e : Tree) → IsHead call first own → closed call first (expr_tree last) ≡ Some e
    → IsFactorOf e (own ++ (expr_text last ++ codes ")"))
unfolding tight
closes Text first own last e h g = absurd h
closes Group None own last e h g = record { written = bracketed h.inside last tight; tree_is = cc; text_is = rw h.text_is refl }
closes Group (Some a) own last e h g = absurd h
closes StarCall None own last e h g = record {
  written = star_of h.before h.inside last tight;
  tree_is = cc;
  text_is = rw h.text_is (sym (append_assoc (spaced h.before (codes "star")) (spaced h.inside (codes "(")) (expr_text last ++ codes ")")));
}
closes StarCall (Some a) own last e h g = absurd h
closes LeastCall None own last e h g = cc
closes LeastCall (Some a) own last e h g = record {
  written = min_of h.before h.inside h.written h.comma last tight;
  tree_is = rw h.tree_is cc;
  text_is = rw h.text_is (simp append_assoc);
}
closes LeftCall None own last e h g = cc
closes LeftCall (Some a) own last e h g = record {
  written = left_of h.before h.inside h.written h.comma last tight;
  tree_is = rw h.tree_is cc;
  text_is = rw h.text_is (simp append_assoc);
}

-- ---- each text that leads to a state can be completed

pub record IsCompleted (w : List ℕ) : Type 0 where
  pub rest : List ℕ
  pub tree : Tree
  pub whole : IsExpression (w ++ rest) tree

-- a factor that closes an open bracket, with what is to be written for it
record IsClosedBy (own : List ℕ) (last : ExprText) : Type 0 where
  written : FactorText
  rest : List ℕ
  text_is : factor_text written ≡ own ++ (expr_text last ++ rest)

closed_by : (call : Call) (first : Option Tree) (own : List ℕ) (last : ExprText) → IsHead call first own → IsClosedBy own last
unfolding tight
closed_by Text first own last h = absurd h
closed_by Group None own last h = record { written = bracketed h.inside last tight; rest = codes ")"; text_is = rw h.text_is refl }
closed_by Group (Some a) own last h = absurd h
closed_by StarCall None own last h = record { written = star_of h.before h.inside last tight; rest = codes ")"; text_is = rw h.text_is (simp append_assoc) }
closed_by StarCall (Some a) own last h = absurd h
closed_by LeastCall None own last h = record { written = min_of h.before h.inside last tight (term (factor (e_word tight))) tight; rest = codes ",e)"; text_is = rw h.text_is (simp append_assoc) }
closed_by LeastCall (Some a) own last h = record { written = min_of h.before h.inside h.written h.comma last tight; rest = codes ")"; text_is = rw h.text_is (simp append_assoc) }
closed_by LeftCall None own last h = record { written = left_of h.before h.inside last tight (term (factor (e_word tight))) tight; rest = codes ",e)"; text_is = rw h.text_is (simp append_assoc) }
closed_by LeftCall (Some a) own last h = record { written = left_of h.before h.inside h.written h.comma last tight; rest = codes ")"; text_is = rw h.text_is (simp append_assoc) }

-- an expression in the innermost bracket can be completed
pub completed : (o : List Level) (call : Call) (first : Option Tree) (h : List ℕ) → IsHeads o call first h → (a : ExprText) → IsCompleted (h ++ expr_text a)
completed [] call first h is a = record {
  rest = [];
  tree = expr_tree a;
  whole = record { written = a; text_is = rw is.text_is (sym (append-nil (expr_text a))); tree_is = refl };
}
completed (m ∷ o) call first h is a =
    let f : IsClosedBy is.own a = closed_by call first is.own a is.is_own in
    let t : IsTermOf (multiplied m.product (factor_tree f.written)) (is.is_outer.product ++ factor_text f.written) = with_product m.product is.is_outer.product is.is_outer.is_product f.written in
    let s : IsExprOf (joined m.sum (term_tree t.written)) (is.is_outer.sum ++ term_text t.written) = with_sum m.sum is.is_outer.sum is.is_outer.is_sum t.written in
    let c : IsCompleted (is.is_outer.heads ++ expr_text s.written) = completed o m.call m.first is.is_outer.heads is.is_outer.is_heads s.written in
    record {
      rest = f.rest ++ c.rest;
      tree = c.tree;
      whole = record {
        written = c.whole.written;
        text_is = c.whole.text_is ∙ rw (s.text_is, t.text_is, f.text_is, is.text_is, is.is_outer.text_is) (simp append_assoc);
        tree_is = c.whole.tree_is;
      };
    }

-- ---- one blank more behind a token

-- one blank more
longer : Blanks → Blanks
longer p = record { before = p.before; after = p.after + 1 }

spaced_longer : (p : Blanks) (token : List ℕ) → spaced (longer p) token ≡ spaced p token ++ (32 ∷ [])
unfolding longer
spaced_longer p token =
    ap (λ (z : List ℕ). blanks p.before ++ (token ++ z)) (sym (replicate_more p.after 32)) ∙ simp append_assoc

-- the same factor with one blank more behind it
factor_longer : FactorText → FactorText
factor_longer (mono_token p shift a minus date b) = mono_token (longer p) shift a minus date b
factor_longer (eps_word p) = eps_word (longer p)
factor_longer (e_word p) = e_word (longer p)
factor_longer (never_word p) = never_word (longer p)
factor_longer (bracketed p a q) = bracketed p a (longer q)
factor_longer (star_of n p a q) = star_of n p a (longer q)
factor_longer (min_of n p a c b q) = min_of n p a c b (longer q)
factor_longer (left_of n p a c b q) = left_of n p a c b (longer q)

factor_longer_text : (f : FactorText) → factor_text (factor_longer f) ≡ factor_text f ++ (32 ∷ [])
unfolding factor_longer
factor_longer_text (mono_token p shift a minus date b) = spaced_longer p (mono_text shift minus date)
factor_longer_text (eps_word p) = spaced_longer p (codes "eps")
factor_longer_text (e_word p) = spaced_longer p (codes "e")
factor_longer_text (never_word p) = spaced_longer p (codes "never")
factor_longer_text (bracketed p a q) = ap (λ (z : List ℕ). spaced p (codes "(") ++ (expr_text a ++ z)) (spaced_longer q (codes ")")) ∙ simp append_assoc
factor_longer_text (star_of n p a q) = ap (λ (z : List ℕ). spaced n (codes "star") ++ (spaced p (codes "(") ++ (expr_text a ++ z))) (spaced_longer q (codes ")")) ∙ simp append_assoc
factor_longer_text (min_of n p a c b q) = ap (λ (z : List ℕ). spaced n
    (codes "min") ++ (spaced p (codes "(") ++ (expr_text a ++ (spaced c (codes ",") ++ (expr_text b ++ z))))) (spaced_longer q (codes ")")) ∙ simp append_assoc
factor_longer_text (left_of n p a c b q) = ap (λ (z : List ℕ). spaced n
    (codes "left") ++ (spaced p (codes "(") ++ (expr_text a ++ (spaced c (codes ",") ++ (expr_text b ++ z))))) (spaced_longer q (codes ")")) ∙ simp append_assoc

factor_longer_tree : (f : FactorText) → factor_tree (factor_longer f) ≡ factor_tree f
unfolding factor_longer
factor_longer_tree (mono_token p shift a minus date b) = refl
factor_longer_tree (eps_word p) = refl
factor_longer_tree (e_word p) = refl
factor_longer_tree (never_word p) = refl
factor_longer_tree (bracketed p a q) = refl
factor_longer_tree (star_of n p a q) = refl
factor_longer_tree (min_of n p a c b q) = refl
factor_longer_tree (left_of n p a c b q) = refl

-- the same term with one blank more behind it
pub term_longer : (t : TermText) → IsTermOf (term_tree t) (term_text t ++ (32 ∷ []))
term_longer (factor f) = record { written = factor (factor_longer f); tree_is = factor_longer_tree f; text_is = factor_longer_text f }
term_longer (times_factor t p f) = record {
  written = times_factor t p (factor_longer f);
  tree_is = ap (λ z. times (term_tree t) z) (factor_longer_tree f);
  text_is = ap (λ (z : List ℕ). term_text t ++ (spaced p (codes ".") ++ z)) (factor_longer_text f) ∙ simp append_assoc;
}
