use Rattle.std.proofs.Common.{rules, ◌≡◌, ◌==◌, ◌++◌, ◌∷◌, [], List, ℕ, length, false, subst, sym, ◌∙◌, ap, lit<, map}
use Rattle.std.proofs.lemmas.Bool.{eqb-false}
use Rattle.std.proofs.lemmas.Str.Pattern.{strip_suffix_char}
use Rattle.teg_text.specs.Lines.{phrase}
use Rattle.word_lines.specs.WordLines.{IsTextOf}
use Rattle.word_lines.proofs.Parts.{no_lines, parts_are_lines}
use Rattle.word_lines.proofs.reading.lines_of.Goals as goal

pub returns-in_default : goal.returns-in_default
returns-in_default c =
    let text = c.args.text.now in
    let some : (length text == 0) ≡ false = sym c.is_empty.ensures ∙ c.if-is_empty.false in
    let cut = strip_suffix_char 10 text c.strip_suffix.result c.strip_suffix.ensures.cases (lit< tt) in
    no_lines text (λ e. eqb-false (length text) 0 some (ap length e)) (rw c.in_default.is at cut)

pub returns : goal.returns
returns c =
    let text = c.args.text.now in
    let cut = strip_suffix_char 10 text c.strip_suffix.result c.strip_suffix.ensures.cases (lit< tt) in
    let is : text ≡ c.in-Some.body.now ++ 10 ∷ [] = rw c.in-Some.is at cut in
    subst (λ (parts : List (List ℕ)). IsTextOf text (map phrase parts)) (sym c.in_ok-parts.ensures) (parts_are_lines c.in-Some.body.now text is)
