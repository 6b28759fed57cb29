-- Runs of the reader over texts that are joined.
use Rattle.std.proofs.Common.{◌≡◌, refl, ap, ◌∙◌, ℕ, zero, suc, List, [], ◌∷◌, ◌++◌, Option, Some, None}
use Rattle.std.specs.Prelude.{option_and_then}
use Rattle.teg_calc.specs.declared.brackets.Call.{Call}
use Rattle.teg_calc.specs.declared.tokens.Part.TheVariants.{Name}
use Rattle.teg_calc.specs.Grammar.{blanks}
use Rattle.teg_calc.specs.ExpressionTrees.{Tree}
use Rattle.teg_calc.specs.Readers.{Level, State, state, operand, within, operator, step}
use Rattle.teg_calc.proofs.TextRuns.{run}

through : (o : Option State) (f g : State → Option State) (t : State) (r : Option State) → ((n : State) → f n ≡ Some t → g n ≡ r) → option_and_then f o ≡ Some t → option_and_then g o ≡ r
through None f g t r k h = cc
through (Some n) f g t r k h = k n h

-- what is read after a text goes on from where the text led
pub runs_then : (u v : List ℕ) (s t : State) → run s u ≡ Some t → run s (u ++ v) ≡ run t v
runs_then [] v s t h = let e : s ≡ t = cc in ap (λ (z : State). run z v) e
runs_then (b ∷ u) v s t h = through (step s b) (λ n. run n u) (λ n. run n (u ++ v)) t (run t v) (λ n e. runs_then u v n t e) h

stopped : (o : Option State) (f g : State → Option State) → ((n : State) → f n ≡ None → g n ≡ None) → option_and_then f o ≡ None → option_and_then g o ≡ None
stopped None f g k h = refl
stopped (Some n) f g k h = k n h

-- where a text stops the reader, each longer one does
pub stops_then : (u v : List ℕ) (s : State) → run s u ≡ None → run s (u ++ v) ≡ None
stops_then [] v s h = cc
stops_then (b ∷ u) v s h = stopped (step s b) (λ n. run n u) (λ n. run n (u ++ v)) (λ n e. stops_then u v n e) h

-- two texts, one after the other
pub runs_both : (u v : List ℕ) (s t r : State) → run s u ≡ Some t → run t v ≡ Some r → run s (u ++ v) ≡ Some r
runs_both u v s t r h k = runs_then u v s t h ∙ k

-- blanks change nothing where an operand begins, behind a term and behind the name of a call
pub operand_blanks : (n : ℕ) (o : List Level) (i : Level) → run (state o i operand) (blanks n) ≡ Some (state o i operand)
operand_blanks zero o i = refl
operand_blanks (suc n) o i = operand_blanks n o i

pub operator_blanks : (n : ℕ) (o : List Level) (i : Level) (t : Tree) → run (state o i (operator t)) (blanks n) ≡ Some (state o i (operator t))
operator_blanks zero o i t = refl
operator_blanks (suc n) o i t = operator_blanks n o i t

pub name_blanks : (n : ℕ) (o : List Level) (i : Level) (c : Call) → run (state o i (within (Name c))) (blanks n) ≡ Some (state o i (within (Name c)))
name_blanks zero o i c = refl
name_blanks (suc n) o i c = name_blanks n o i c
