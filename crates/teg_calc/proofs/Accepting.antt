-- What is written as an expression is read as its tree.
use Rattle.std.proofs.Common.{◌≡◌, refl, ap, sym, ◌∙◌, arith, ℕ, zero, suc, ◌+◌, ◌*◌, ◌<◌, ◌≤◌, Bool, true, false, List, [], ◌∷◌, ◌++◌, length, codes, Option, Some, None}
use Rattle.std.specs.Prelude.{◌==◌, nat_lt, if◌then◌else◌}
use Rattle.std.proofs.lemmas.Bool.Decides.{nat_tests}
use Rattle.std.specs.Char.{digit_value}
use Rattle.std.specs.Str.Parse.{AllDigits, digits_value, digits_value_after}
use Rattle.teg_calc.specs.declared.brackets.Call.{Call}
use Rattle.teg_calc.specs.declared.brackets.Call.TheVariants.{Text, Group, Star as StarCall, Least as LeastCall, Left as LeftCall}
use Rattle.teg_calc.specs.declared.tokens.Part.{Part}
use Rattle.teg_calc.specs.declared.tokens.Part.TheVariants.{Unit as UnitPart, Name, Shift, Delta, Date}
use Rattle.teg_calc.specs.ExpressionTrees.{Tree, mono, epsilon, unit, never, plus, star, least, left}
use Rattle.teg_calc.specs.Grammar.{Blanks, AreDigits, ExprText, TermText, FactorText, term, plus_term, factor, times_factor, mono_token, eps_word}
use Rattle.teg_calc.specs.Grammar.{e_word, never_word, bracketed, star_of, min_of, left_of, blanks, spaced, minus_text, mono_text, expr_text}
use Rattle.teg_calc.specs.Grammar.{term_text, factor_text, expr_tree, term_tree, factor_tree, IsExpression}
use Rattle.teg_calc.specs.Readers.{Level, level, opened_level, State, state, start, operand, within, operator, step, nested, joined, multiplied}
use Rattle.teg_calc.specs.Readers.{closed, takes_comma, digit_of, date_on, factored, operator_step, finish}
use Rattle.teg_calc.proofs.Runs.{runs_then, runs_both, operand_blanks, operator_blanks, name_blanks}
use Rattle.teg_calc.proofs.TextRuns.{run}

-- ---- behind a term, whether its last token may go on or not

-- the state is behind this term
pub data IsBehind (o : List Level) (i : Level) (t : Tree) : State → Type 0 where
  ended : IsBehind o i t (state o i (operator t))
  in_unit : (k : Level) → i ≡ level k.call k.first k.sum None → t ≡ multiplied k.product unit → IsBehind o i t (state o k (within UnitPart))
  in_date : (k : Level) (shift : ℕ) (minus : Bool) (count value : ℕ) → i ≡ level k.call k.first k.sum None
      → t ≡ multiplied k.product (mono shift minus value) → IsBehind o i t (state o k (within (Date shift minus (suc count) value)))

-- a byte by which no token goes on
record IsNoPart (b : ℕ) : Type 0 where
  letter : (b == 112) ≡ false
  digit : digit_of b ≡ None

same_none : (c : Bool) → (let none : Option Part = None in if c then none else none) ≡ None
same_none true = refl
same_none false = refl

no_date : (shift : ℕ) (minus : Bool) (count value b : ℕ) → digit_of b ≡ None → date_on shift minus count value b ≡ None
no_date shift minus count value b h = rw h (same_none (nat_lt count 19))

-- such a byte goes on from behind the term
behind_step_is : (o : List Level) (i : Level) (t : Tree) (s : State) (b : ℕ) → IsNoPart b → IsBehind o i t s → step s b ≡ operator_step o i t b
behind_step_is o i t s b h ended = refl
behind_step_is o i t s b h (in_unit k e g) = rw (h.letter, e, g) refl
behind_step_is o i t s b h (in_date k shift minus count value e g) =
    let some : (suc count == 0) ≡ false = grind (arith, nat_tests) in
    rw (no_date shift minus (suc count) value b h.digit, some, e, g) refl

-- the state that a text leads to, behind this term
pub record ReadsTo (s : State) (text : List ℕ) (o : List Level) (i : Level) (t : Tree) : Type 0 where
  pub target : State
  pub runs : run s text ≡ Some target
  pub behind : IsBehind o i t target

blank_is_none : IsNoPart 32
blank_is_none = record { letter = refl; digit = refl }

close_is_none : IsNoPart 41
close_is_none = record { letter = refl; digit = refl }

plus_is_none : IsNoPart 43
plus_is_none = record { letter = refl; digit = refl }

comma_is_none : IsNoPart 44
comma_is_none = record { letter = refl; digit = refl }

dot_is_none : IsNoPart 46
dot_is_none = record { letter = refl; digit = refl }

-- blanks behind a term
after_blanks : (n : ℕ) (s : State) (o : List Level) (i : Level) (t : Tree) → IsBehind o i t s → ReadsTo s (blanks n) o i t
after_blanks zero s o i t h = record { target = s; runs = refl; behind = h }
after_blanks (suc n) s o i t h = record {
  target = state o i (operator t);
  runs = rw (behind_step_is o i t s 32 blank_is_none h) (operator_blanks n o i t);
  behind = ended;
}

-- one more text behind what was read
then_reads : {s t : State} (u v : List ℕ) {o : List Level} {i : Level} {e : Tree} → run s u ≡ Some t → ReadsTo t v o i e → ReadsTo s (u ++ v) o i e
then_reads {s} {t} u v h r = record { target = r.target; runs = runs_both u v s t r.target h r.runs; behind = r.behind }

-- an operator and its blanks, behind a term
operator_token : (p : Blanks) (b : ℕ) (s : State) (o : List Level) (i : Level) (t : Tree) (next : State) → IsNoPart b → IsBehind o i t s
    → operator_step o i t b ≡ Some next → ((n : ℕ) → run next (blanks n) ≡ Some next) → run s (spaced p (b ∷ [])) ≡ Some next
operator_token p b s o i t next none h e stays =
    let r : ReadsTo s (blanks p.before) o i t = after_blanks p.before s o i t h in
    runs_both (blanks p.before) (b ∷ blanks p.after) s r.target next r.runs
    (rw (behind_step_is o i t r.target b none r.behind, e) (stays p.after))

-- a token where an operand begins, with its blanks
operand_token : (p : Blanks) (token : List ℕ) (o : List Level) (i : Level) (next : State) → run (state o i operand) token ≡ Some next
    → ((n : ℕ) → run next (blanks n) ≡ Some next) → run (state o i operand) (spaced p token) ≡ Some next
operand_token p token o i next h stays =
    runs_both (blanks p.before) (token ++ blanks p.after) (state o i operand) (state o i operand) next (operand_blanks p.before o i)
    (runs_both token (blanks p.after) (state o i operand) next next h (stays p.after))

-- the same of a token that may go on
factor_token : (p : Blanks) (token : List ℕ) (o : List Level) (i k : Level) (t : Tree) (s : State) → run (state o i operand) token ≡ Some s
    → IsBehind o k t s → ReadsTo (state o i operand) (spaced p token) o k t
factor_token p token o i k t s h e =
    then_reads _ _ (operand_blanks p.before o i) (then_reads _ _ h (after_blanks p.after s o k t e))

-- the bracket of a call, behind its name
name_token : (p : Blanks) (o : List Level) (i : Level) (c : Call) → run (state o i (within (Name c))) (spaced p (codes "(")) ≡ Some (nested o i c)
name_token p o i c =
    runs_both (blanks p.before) (40 ∷ blanks p.after) _ _ _ (name_blanks p.before o i c) (operand_blanks p.after (i ∷ o) (opened_level c))

-- ---- numbers

no_letter : (d : ℕ) → digit_value d < 10 → (d == 100) ≡ false
no_letter d h = grind (arith, nat_tests)

no_sign : (d : ℕ) → digit_value d < 10 → (d == 45) ≡ false
no_sign d h = grind (arith, nat_tests)

is_digit : (d : ℕ) → digit_value d < 10 → digit_of d ≡ Some (digit_value d)
is_digit d h = let e : nat_lt (digit_value d) 10 ≡ true = grind (arith, nat_tests) in rw e refl

shift_digits : (ds : List ℕ) (o : List Level) (i : Level) (c v : ℕ) → AllDigits 10 ds → c + length ds ≤ 19
    → run (state o i (within (Shift c v))) ds ≡ Some (state o i (within (Shift (c + length ds) (digits_value_after 10 v ds))))
shift_digits [] o i c v a h = ap (λ (z : ℕ). Some (state o i (within (Shift z v)))) (omega arith)
shift_digits (d ∷ ds) o i c v a h =
    let few : nat_lt c 19 ≡ true = grind (arith, nat_tests) in
    let more : (c + 1) + length ds ≡ c + length (d ∷ ds) = omega arith in
    rw (no_letter d a.0, few, is_digit d a.0, ← more) (shift_digits ds o i (c + 1) (v * 10 + digit_value d) a.1 (omega arith))

date_digits : (ds : List ℕ) (o : List Level) (i : Level) (s : ℕ) (m : Bool) (c v : ℕ) → AllDigits 10 ds → c + length ds ≤ 19
    → run (state o i (within (Date s m c v))) ds ≡ Some (state o i (within (Date s m (c + length ds) (digits_value_after 10 v ds))))
date_digits [] o i s m c v a h = ap (λ (z : ℕ). Some (state o i (within (Date s m z v)))) (omega arith)
date_digits (d ∷ ds) o i s m c v a h =
    let few : nat_lt c 19 ≡ true = grind (arith, nat_tests) in
    let more : (c + 1) + length ds ≡ c + length (d ∷ ds) = omega arith in
    rw (few, is_digit d a.0, ← more) (date_digits ds o i s m (c + 1) (v * 10 + digit_value d) a.1 (omega arith))

-- the date of a monomial, behind its `d`
date_runs : (o : List Level) (i : Level) (s : ℕ) (minus : Bool) (d : ℕ) (ds : List ℕ) → AllDigits 10 (d ∷ ds) → length (d ∷ ds) ≤ 19
    → run (state o i (within (Delta s))) (minus_text minus ++ (d ∷ ds)) ≡ Some (state o i (within (Date s minus (0 + length (d ∷ ds)) (digits_value 10 (d ∷ ds)))))
date_runs o i s true d ds a h = date_digits (d ∷ ds) o i s true 0 0 a (omega arith)
date_runs o i s false d ds a h =
    let no_minus : (d == 45) ≡ false = no_sign d a.0 in
    rw no_minus (date_digits (d ∷ ds) o i s false 0 0 a (omega arith))

-- a monomial
mono_runs : (o : List Level) (i : Level) (shift : List ℕ) (minus : Bool) (d : ℕ) (ds : List ℕ) → AreDigits shift → AreDigits (d ∷ ds)
    → run (state o i operand) (mono_text shift minus (d ∷ ds)) ≡ Some (state o i (within (Date (digits_value 10 shift) minus (suc (length ds)) (digits_value 10 (d ∷ ds)))))
mono_runs o i shift minus d ds a b =
    let some : 0 < length shift = a.numeral.0 in
    let counted : (0 + length shift == 0) ≡ false = grind (arith, nat_tests) in
    let count : 0 + length (d ∷ ds) ≡ suc (length ds) = omega arith in
    runs_then shift (100 ∷ (minus_text minus ++ (d ∷ ds))) _ _ (shift_digits shift o i 0 0 a.numeral.1 (omega (arith, a.few)))
    ∙ rw (counted, ← count) (date_runs o i (digits_value 10 shift) minus d ds b.numeral.1 b.few)

mono_reads : (p : Blanks) (o : List Level) (i : Level) (shift : List ℕ) (minus : Bool) (date : List ℕ) → AreDigits shift → AreDigits date
    → ReadsTo (state o i operand) (spaced p (mono_text shift minus date)) o (level i.call i.first i.sum None) (multiplied i.product (mono (digits_value 10 shift) minus (digits_value 10 date)))
mono_reads p o i shift minus [] a b = absurd (let h : 0 < length {A = ℕ} [] = b.numeral.0 in omega arith)
mono_reads p o i shift minus (d ∷ ds) a b =
    factor_token p (mono_text shift minus (d ∷ ds)) o i _ _ _ (mono_runs o i shift minus d ds a b)
    (in_date i (digits_value 10 shift) minus (length ds) (digits_value 10 (d ∷ ds)) refl refl)

-- ---- expressions

-- the state that a whole expression leads to: behind its last term, where the sum before it and the term are the tree
pub record ReadsExpr (o : List Level) (c : Call) (first : Option Tree) (text : List ℕ) (e : Tree) : Type 0 where
  pub sum : Option Tree
  pub last : Tree
  pub reads : ReadsTo (state o (level c first None None) operand) text o (level c first sum None) last
  pub total : joined sum last ≡ e

-- an expression and the bracket that closes behind it
closing : (o : List Level) (i : Level) (c : Call) (first : Option Tree) (text : List ℕ) (e f : Tree) (q : Blanks) → ReadsExpr (i ∷ o) c first text e → closed c first e ≡ Some f
    → ReadsTo (state (i ∷ o) (level c first None None) operand) (text ++ spaced q (codes ")")) o (level i.call i.first i.sum None) (multiplied i.product f)
closing o i c first text e f q r h = record {
  target = factored o i f;
  runs = runs_both text (spaced q (codes ")")) _ r.reads.target _ r.reads.runs
      (operator_token q 41 r.reads.target (i ∷ o) (level c first r.sum None) r.last (factored o i f) close_is_none r.reads.behind
      (rw (r.total, h) refl)
      (λ n. operator_blanks n o (level i.call i.first i.sum None) (multiplied i.product f)));
  behind = ended;
}

-- the first operand of a call, its comma and what follows
comma_then : (o : List Level) (c : Call) (text rest : List ℕ) (e t : Tree) (k : Level) (r : List Level) (p : Blanks) → ReadsExpr o c None text e → takes_comma c None ≡ true
    → ReadsTo (state o (level c (Some e) None None) operand) rest r k t → ReadsTo (state o (level c None None None) operand) (text ++ (spaced p (codes ",") ++ rest)) r k t
comma_then o c text rest e t k r p a h next =
    then_reads _ _ a.reads.runs (then_reads _ _
    (operator_token p 44 a.reads.target o (level c None a.sum None) a.last (state o (level c (Some e) None None) operand) comma_is_none a.reads.behind
    (rw (h, a.total) refl) (λ n. operand_blanks n o (level c (Some e) None None))) next)

mutual
  pub expr_reads : (a : ExprText) (o : List Level) (c : Call) (first : Option Tree) → ReadsExpr o c first (expr_text a) (expr_tree a)
  expr_reads (term t) o c first = record { sum = None; last = term_tree t; reads = term_reads t o c first None; total = refl }
  expr_reads (plus_term a p t) o c first =
      let r : ReadsExpr o c first (expr_text a) (expr_tree a) = expr_reads a o c first in
      record {
        sum = Some (joined r.sum r.last);
        last = term_tree t;
        reads = then_reads _ _ r.reads.runs (then_reads _ _
            (operator_token p 43 r.reads.target o (level c first r.sum None) r.last (state o (level c first (Some (joined r.sum r.last)) None) operand) plus_is_none r.reads.behind
            refl (λ n. operand_blanks n o (level c first (Some (joined r.sum r.last)) None)))
            (term_reads t o c first (Some (joined r.sum r.last))));
        total = ap (λ z. plus z (term_tree t)) r.total;
      }

  pub term_reads : (t : TermText) (o : List Level) (c : Call) (first sum : Option Tree)
      → ReadsTo (state o (level c first sum None) operand) (term_text t) o (level c first sum None) (term_tree t)
  term_reads (factor f) o c first sum = factor_reads f o (level c first sum None)
  term_reads (times_factor t p f) o c first sum =
      let r : ReadsTo (state o (level c first sum None) operand) (term_text t) o (level c first sum None) (term_tree t) = term_reads t o c first sum in
      then_reads _ _ r.runs (then_reads _ _
      (operator_token p 46 r.target o (level c first sum None) (term_tree t) (state o (level c first sum (Some (term_tree t))) operand) dot_is_none r.behind
      refl (λ n. operand_blanks n o (level c first sum (Some (term_tree t)))))
      (factor_reads f o (level c first sum (Some (term_tree t)))))

  pub factor_reads : (f : FactorText) (o : List Level) (i : Level)
      → ReadsTo (state o i operand) (factor_text f) o (level i.call i.first i.sum None) (multiplied i.product (factor_tree f))
  factor_reads (mono_token p shift a minus date b) o i = mono_reads p o i shift minus date a b
  factor_reads (eps_word p) o i = factor_token p (codes "eps") o i _ _ (factored o i epsilon) refl ended
  factor_reads (e_word p) o i = factor_token p (codes "e") o i _ _ (state o i (within UnitPart)) refl (in_unit i refl refl)
  factor_reads (never_word p) o i = factor_token p (codes "never") o i _ _ (factored o i never) refl ended
  factor_reads (bracketed p a q) o i =
      then_reads _ _ (operand_token p (codes "(") o i (nested o i Group) refl (λ n. operand_blanks n (i ∷ o) (opened_level Group)))
      (closing o i Group None (expr_text a) (expr_tree a) (expr_tree a) q (expr_reads a (i ∷ o) Group None) refl)
  factor_reads (star_of n p a q) o i =
      then_reads _ _ (operand_token n (codes "star") o i (state o i (within (Name StarCall))) refl (λ m. name_blanks m o i StarCall))
      (then_reads _ _ (name_token p o i StarCall)
      (closing o i StarCall None (expr_text a) (expr_tree a) (star (expr_tree a)) q (expr_reads a (i ∷ o) StarCall None) refl))
  factor_reads (min_of n p a c b q) o i =
      then_reads _ _ (operand_token n (codes "min") o i (state o i (within (Name LeastCall))) refl (λ m. name_blanks m o i LeastCall))
      (then_reads _ _ (name_token p o i LeastCall)
      (comma_then (i ∷ o) LeastCall (expr_text a) (expr_text b ++ spaced q (codes ")")) (expr_tree a) _ _ o c (expr_reads a (i ∷ o) LeastCall None) refl
      (closing o i LeastCall (Some (expr_tree a)) (expr_text b) (expr_tree b) (least (expr_tree a) (expr_tree b)) q (expr_reads b (i ∷ o) LeastCall (Some (expr_tree a))) refl)))
  factor_reads (left_of n p a c b q) o i =
      then_reads _ _ (operand_token n (codes "left") o i (state o i (within (Name LeftCall))) refl (λ m. name_blanks m o i LeftCall))
      (then_reads _ _ (name_token p o i LeftCall)
      (comma_then (i ∷ o) LeftCall (expr_text a) (expr_text b ++ spaced q (codes ")")) (expr_tree a) _ _ o c (expr_reads a (i ∷ o) LeftCall None) refl
      (closing o i LeftCall (Some (expr_tree a)) (expr_text b) (expr_tree b) (left (expr_tree a) (expr_tree b)) q (expr_reads b (i ∷ o) LeftCall (Some (expr_tree a))) refl)))

-- ---- whole texts

finish_behind : (i : Level) (t : Tree) (s : State) → IsBehind [] i t s → finish s ≡ Some (joined i.sum t)
finish_behind i t s ended = refl
finish_behind i t s (in_unit k e g) = rw (e, g) refl
finish_behind i t s (in_date k shift minus count value e g) = let some : (suc count == 0) ≡ false = grind (arith, nat_tests) in rw (some, e, g) refl

-- an expression is read, and its tree is the reader's
pub record IsAccepted (text : List ℕ) (e : Tree) : Type 0 where
  pub target : State
  pub runs : run start text ≡ Some target
  pub finishes : finish target ≡ Some e

pub accepted : (text : List ℕ) (e : Tree) → IsExpression text e → IsAccepted text e
accepted text e h =
    let r : ReadsExpr [] Text None (expr_text h.written) (expr_tree h.written) = expr_reads h.written [] Text None in
    record {
      target = r.reads.target;
      runs = ap (run start) (sym h.text_is) ∙ r.reads.runs;
      finishes = finish_behind _ _ r.reads.target r.reads.behind ∙ ap (λ (z : Tree). Some z) (r.total ∙ h.tree_is);
    }

-- a text has one tree
pub one_tree : (text : List ℕ) (a b : Tree) → IsExpression text a → IsExpression text b → a ≡ b
one_tree text a b h k =
    let x : IsAccepted text a = accepted text a h in
    let y : IsAccepted text b = accepted text b k in
    let e : run start text ≡ Some x.target = x.runs in
    let f : run start text ≡ Some y.target = y.runs in
    let g : x.target ≡ y.target = cc in
    let u : finish x.target ≡ Some a = x.finishes in
    let v : finish y.target ≡ Some b = y.finishes in
    cc
