use Rattle.std.proofs.Common.{[], ◌∷◌, ◌++◌, List, ℕ, map, ap, ◌∙◌, string_bytes}
use Rattle.teg_net.specs.declared.answers.Potential.{Potential}
use Rattle.teg_lines.specs.CycleLines.{potential_line, ratio_line}
use Rattle.teg_text.specs.Lines.{line_then, written}
use Rattle.teg_text.proofs.Joining.{two_then}
use Rattle.teg_text.specs.WordsOfNames.{circuit_line}
use Rattle.teg_lines.proofs.cycles.push_part.Goals as goal

pub returns-in_ok-push_each-in-Best : goal.returns-in_ok-push_each-in-Best
returns-in_ok-push_each-in-Best c =
    let net = c.args.net.now in
    let before = string_bytes c.args.text.now in
    let ratio = ratio_line c.args.number c.in-Best.ratio in
    let circuit = circuit_line net c.in-Best.circuit.places.items in
    let told = map (potential_line net) c.deref.result.now in
    rw c.in-Best.is
    (c.in_ok-push_each-in-Best.ensures.text
    ∙ (ap (λ (l : List ℕ). l ++ written told) (c.in_ok-push_circuit-in-Best.ensures ∙ ap (λ (l : List ℕ). l ++ line_then circuit []) c.in_ok-push_ratio-in-Best.ensures)
    ∙ (two_then before ratio circuit told
    ∙ ap (λ (vs : List Potential). before ++ written (ratio ∷ circuit ∷ map (potential_line net) vs)) c.deref.ensures.value)))
