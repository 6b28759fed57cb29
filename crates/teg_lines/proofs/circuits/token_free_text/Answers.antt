use Rattle.std.proofs.Common.{rules, ◌≡◌, [], ◌++◌, List, ℕ, map, ap, ◌∙◌, string_bytes}
use Rattle.teg_text.specs.Lines.{further_then}
use Rattle.teg_text.proofs.Joining.{line_ends}
use Rattle.teg_text.specs.WordsOfNames.{name_of_place}
use Rattle.teg_lines.proofs.circuits.token_free_text.Goals as goal

pub returns : goal.returns
unfolding lib.Utf8.encode
returns c =
    let name = name_of_place c.args.net.now in
    let places = c.args.circuit.now.places.items in
    let bytes : c.into_bytes.result.items ≡ string_bytes c.push.new.self = search rules in
    bytes ∙ (line_ends name places (string_bytes c.in_ok-text.text) _ _ c.in_ok-push_places.ensures c.in_ok-push.ensures.bytes
    ∙ ap (λ (l : List ℕ). l ++ further_then (map name places) []) c.in_ok-text.ensures.ok)
