use Rattle.std.proofs.Common.{[], ◌∷◌, ◌++◌, List, ℕ, map, ap, ◌∙◌, string_bytes}
use Rattle.teg_net.specs.declared.rounds.Choice.{Choice}
use Rattle.teg_lines.specs.RoundLines.{choice_line, turn_line}
use Rattle.teg_text.specs.Lines.{line_then, written}
use Rattle.teg_text.proofs.Joining.{two_then}
use Rattle.teg_text.specs.WordsOfNames.{circuit_line}
use Rattle.teg_lines.proofs.rounds.push_round.Goals as goal

pub returns-clause-text : goal.returns-clause-text
returns-clause-text c =
    let net = c.args.net.now in
    let round = c.args.round.now in
    let before = string_bytes c.args.text.now in
    let turn = turn_line c.args.part c.args.turn round.ratio in
    let circuit = circuit_line net round.circuit.places.items in
    let told = map (choice_line net) c.deref.result.now in
    c.in_ok-push_each.ensures.text
    ∙ (ap (λ (l : List ℕ). l ++ written told) (c.in_ok-push_circuit.ensures ∙ ap (λ (l : List ℕ). l ++ line_then circuit []) c.in_ok-push_turn.ensures.text)
    ∙ (two_then before turn circuit told
    ∙ ap (λ (vs : List Choice). before ++ written (turn ∷ circuit ∷ map (choice_line net) vs)) c.deref.ensures.value))
