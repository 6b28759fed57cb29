-- Lines of the usage, as their parts.
use Rattle.std.proofs.Common.{◌≡◌, ℕ, ◌+◌, ◌-◌, ◌≤◌, List, [], ◌∷◌, ◌++◌, length, map, take, drop, get_or, sym, ap, ◌∙◌, append_assoc, arith, codes}
use Rattle.std.proofs.lemmas.List.{take_all}
use Rattle.teg_report.specs.UsageLines.{usage_from}
use Rattle.teg_text.specs.Lines.{phrase, line_then, written}
use Rattle.teg_text.proofs.Joining.{line_append}
use Rattle.teg_report.proofs.FileRowsWritten.{phrase_line}

-- the line of a command
pub use_written : (begin name follows : List ℕ) →
    line_then (phrase (begin ++ (codes " teg " ++ (name ++ 32 ∷ follows)))) [] ≡ begin ++ (codes " teg " ++ (name ++ (32 ∷ (follows ++ 10 ∷ []))))
use_written begin name follows =
    phrase_line (begin ++ (codes " teg " ++ (name ++ 32 ∷ follows)))
    ∙ (append_assoc begin (codes " teg " ++ (name ++ 32 ∷ follows)) (10 ∷ [])
    ∙ ap (λ (l : List ℕ). begin ++ (codes " teg " ++ l)) (append_assoc name (32 ∷ follows) (10 ∷ [])))

-- one command more
pub one_use_more : {C : Type 0} (g : C → List ℕ) (begin whole text text' : List ℕ) (commands : List C) (d : C) → 1 ≤ length commands →
    text' ≡ text ++ line_then (phrase (begin ++ (codes " teg " ++ g (get_or commands 0 d)))) [] → text ++ written (usage_from begin (map g commands)) ≡ whole →
    text' ++ written (usage_from (codes "      ") (map g (take (length commands - 1) (drop 1 commands)))) ≡ whole
one_use_more g begin whole text text' [] d some pushed h = absurd (omega (arith, some))
one_use_more {C} g begin whole text text' (command ∷ more) d some pushed h =
    let line = phrase (begin ++ (codes " teg " ++ g command)) in
    let rest = written (usage_from (codes "      ") (map g more)) in
    let all : take (length (command ∷ more) - 1) more ≡ more = take_all (length (command ∷ more) - 1) more (omega arith) in
    ap (λ (cs : List C). text' ++ written (usage_from (codes "      ") (map g cs))) all
    ∙ (ap (λ (l : List ℕ). l ++ rest) pushed ∙ (append_assoc text (line_then line []) rest ∙ (ap (λ (l : List ℕ). text ++ l) (sym (line_append line rest)) ∙ h)))

-- the first command and the others
pub usage_joined : (begin form : List ℕ) (forms : List (List ℕ)) (none first whole : List ℕ) → none ≡ [] →
    first ≡ none ++ line_then (phrase (begin ++ (codes " teg " ++ form))) [] → whole ≡ first ++ written (usage_from (codes "      ") forms) →
    whole ≡ written (usage_from begin (form ∷ forms))
usage_joined begin form forms none first whole e one rest =
    let line = phrase (begin ++ (codes " teg " ++ form)) in
    let more = written (usage_from (codes "      ") forms) in
    rest ∙ (ap (λ (l : List ℕ). l ++ more) (one ∙ ap (λ (l : List ℕ). l ++ line_then line []) e) ∙ sym (line_append line more))
