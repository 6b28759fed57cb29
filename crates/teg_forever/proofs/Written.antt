-- Lines as their parts.
use Rattle.std.proofs.Common.{◌≡◌, ◌<◌, ◌+◌, ℕ, length, get_or, drop, Result, Ok, Err, List, [], ◌∷◌, ◌++◌, sym, ap, ◌∙◌, append_assoc}
use Rattle.teg_text.specs.Lines.{line_then}
use Rattle.std.proofs.lemmas.List.{drop_more}
use Rattle.std.specs.Prelude.{OnOk, IfOk}
use Rattle.teg_net.specs.Nets.{NetLists}
use Rattle.teg_forever.specs.declared.releases.Release.{Release}
use Rattle.teg_text.specs.Lines.{written}
use Rattle.teg_text.proofs.Joining.{line_append}
use Rattle.teg_forever.specs.EndlessTexts.{endless_lines_of, release_line}

-- what is said of an answer, by what is known of it
pub told_on : {X E : Type 0} (r : Result X E) (P Q : Type 0) → OnOk r P → (P → Q) → IfOk r (λ _. Q)
told_on (Ok x) P Q h f = f h
told_on (Err e) P Q h f = h

-- one line more
pub line_more : (net : NetLists) (ts : List ℕ) (releases : List Release) (i d : ℕ) (e : Release) (text text' whole : List ℕ) → i < length ts → i < length releases
    → text' ≡ text ++ line_then (release_line net (get_or ts i d) (get_or releases i e)) [] → text ++ written (endless_lines_of net (drop i ts) (drop i releases)) ≡ whole
    → text' ++ written (endless_lines_of net (drop (i + 1) ts) (drop (i + 1) releases)) ≡ whole
line_more net ts releases i d e text text' whole w v pushed before =
    let line = release_line net (get_or ts i d) (get_or releases i e) in
    let rest = written (endless_lines_of net (drop (i + 1) ts) (drop (i + 1) releases)) in
    let parts : written (endless_lines_of net (drop i ts) (drop i releases)) ≡ line_then line rest =
    ap (λ (l : List ℕ). written (endless_lines_of net l (drop i releases))) (drop_more ts i d w)
    ∙ ap (λ (l : List Release). written (endless_lines_of net (get_or ts i d ∷ drop (i + 1) ts) l)) (drop_more releases i e v) in
    ap (λ (l : List ℕ). l ++ rest) pushed ∙ append_assoc text (line_then line []) rest ∙ ap (λ (l : List ℕ). text ++ l) (sym (line_append line rest) ∙ sym parts) ∙ before
