-- Lines of walks, as their parts.
use Rattle.std.proofs.Common.{◌≡◌, ℕ, ◌+◌, ◌<◌, ◌≤◌, List, [], ◌∷◌, ◌++◌, length, get_or, drop, refl, sym, subst, ap, ◌∙◌, append_assoc, arith}
use Rattle.std.proofs.lemmas.List.Elements.{All-tail}
use Rattle.std.specs.List.{flat_map}
use Rattle.std.proofs.Math.ListN.{drop_of_length-le}
use Rattle.std.proofs.Math.Seq.{drop-cons}
use native.Mathlib.Numerals.{unary_clauses}
use Rattle.teg_net.specs.declared.entries.TransitionId.{TransitionId}
use Rattle.teg_net.specs.declared.walks.Step.{Step}
use Rattle.teg_net.specs.declared.walks.Step.TheVariants.{By, Next}
use Rattle.teg_net.specs.Circuits.{place_at, no_place}
use Rattle.teg_net.specs.Limits.{greatest_firing_number}
use Rattle.teg_net.specs.Nets.{NetLists, IsNet}
use Rattle.teg_net.specs.Walks.{numbers_of, IsStepOf}
use Rattle.late_lines.specs.LateLines.{IsPathIn, step_number, step_to, step_words, steps_words}
use Rattle.teg_text.specs.Lines.{further_then, line_then, written}
use Rattle.teg_text.proofs.Joining.{line_append, written_append}

-- words behind others
further_more : (words more : List (List ℕ)) → further_then (words ++ more) [] ≡ flat_map (λ word. 32 ∷ word) words ++ further_then more []
further_more [] more = refl
further_more (word ∷ words) more =
    ap (λ (l : List ℕ). 32 ∷ (word ++ l)) (further_more words more) ∙ sym (append_assoc (32 ∷ word) (flat_map (λ (w : List ℕ). 32 ∷ w) words) (further_then more []))

-- what is left of a walk after some steps: its text, and that it is a walk
pub record IsLeft (net : NetLists) (from : TransitionId) (first : ℕ) (steps : List Step) (before text : List ℕ) (i : ℕ) (at : TransitionId) (number : ℕ) : Type 0 where
  pub told : text ++ further_then (steps_words net at number (drop i steps)) [] ≡ before ++ further_then (steps_words net from first steps) []
  pub path : IsPathIn net at number (drop i steps)

pub path_small : (net : NetLists) (at : TransitionId) (number : ℕ) (steps : List Step) → IsPathIn net at number steps → number ≤ greatest_firing_number
path_small net at number [] h = h.numbers 0 0 (omega arith)
path_small net at number (By p ∷ steps) h = h.numbers 0 0 (omega arith)
path_small net at number (Next ∷ steps) h = h.numbers 0 0 (omega arith)

first_step : (net : NetLists) (at : TransitionId) (number : ℕ) (step : Step) (steps : List Step) → IsPathIn net at number (step ∷ steps) → IsStepOf net step
first_step net at number (By p) steps h = h.walks.2.0
first_step net at number Next steps h = tt

more_path : (net : NetLists) (at : TransitionId) (number : ℕ) (step : Step) (steps : List Step) → IsNet net → IsPathIn net at number (step ∷ steps) →
    IsPathIn net (step_to net at step) (step_number net number step) steps
more_path net at number (By p) steps rules h = record {
  inside = (rules.each_place p.index no_place h.walks.2.0).to_in;
  walks = (h.walks.0, h.walks.1, h.walks.2.2);
  numbers = All-tail (λ x. x ≤ greatest_firing_number) number (numbers_of net (number + (place_at net p).tokens) steps) h.numbers;
}
more_path net at number Next steps rules h = record {
  inside = h.inside;
  walks = h.walks;
  numbers = All-tail (λ x. x ≤ greatest_firing_number) number (numbers_of net (number + 1) steps) h.numbers;
}

-- a step of what is left is one of the net
pub next_step : (net : NetLists) (at : TransitionId) (number : ℕ) (steps rest : List Step) (step : Step) → steps ≡ step ∷ rest → IsPathIn net at number steps → IsStepOf net step
next_step net at number steps rest step e h = first_step net at number step rest (subst (IsPathIn net at number) e h)

-- one step more
pub left_more : (net : NetLists) (from : TransitionId) (first : ℕ) (steps : List Step) (before text text' : List ℕ) (i : ℕ) (at : TransitionId) (number : ℕ) (step : Step) → IsNet net →
    drop i steps ≡ step ∷ drop (i + 1) steps → text' ≡ text ++ flat_map (λ word. 32 ∷ word) (step_words net at number step) → IsLeft net from first steps before text i at number →
    IsLeft net from first steps before text' (i + 1) (step_to net at step) (step_number net number step)
left_more net from first steps before text text' i at number step rules e pushed h =
    let rest = drop (i + 1) steps in
    let words = step_words net at number step in
    let more = steps_words net (step_to net at step) (step_number net number step) rest in
    record {
      told =
          ap (λ (l : List ℕ). l ++ further_then more []) pushed
          ∙ (append_assoc text (flat_map (λ (w : List ℕ). 32 ∷ w) words) (further_then more [])
          ∙ (ap (λ (l : List ℕ). text ++ l) (sym (further_more words more))
          ∙ (ap (λ (s : List Step). text ++ further_then (steps_words net at number s) []) (sym e) ∙ h.told)));
      path = more_path net at number step rest rules (subst (IsPathIn net at number) e h.path);
    }

-- the step that comes next, and those behind it
pub left_at : (steps items : List Step) (i : ℕ) (d : Step) → items ≡ steps → i < length items → drop i steps ≡ get_or items i d ∷ drop (i + 1) steps
left_at steps items i d is lt =
    let lt' : i < length steps = omega (arith, lt, ap length is) in
    let cut : drop i steps ≡ get_or steps i d ∷ drop (i + 1) steps = simp unary_clauses (drop-cons steps i d lt') in
    cut ∙ ap (λ (xs : List Step). get_or xs i d ∷ drop (i + 1) steps) (sym is)

-- no step is left
pub left_none : (net : NetLists) (from : TransitionId) (first : ℕ) (steps : List Step) (before text : List ℕ) (i : ℕ) (at : TransitionId) (number : ℕ) → length steps ≤ i →
    IsLeft net from first steps before text i at number → text ++ 10 ∷ [] ≡ before ++ further_then (steps_words net from first steps) []
left_none net from first steps before text i at number le h =
    ap (λ (s : List Step). text ++ further_then (steps_words net at number s) []) (sym (drop_of_length-le steps le)) ∙ h.told

-- lines between two
pub between : (first last : List (List ℕ)) (lines : List (List (List ℕ))) → (line_then first [] ++ written lines) ++ line_then last [] ≡ written (first ∷ (lines ++ last ∷ []))
between first last lines =
    append_assoc (line_then first []) (written lines) (line_then last [])
    ∙ (ap (λ (l : List ℕ). line_then first [] ++ l) (sym (written_append lines (last ∷ []))) ∙ sym (line_append first (written (lines ++ last ∷ []))))
