use Rattle.std.proofs.Common.{[], ◌++◌, List, ℕ, map, codes, ap, ◌∙◌, append_assoc, string_bytes}
use Rattle.teg_text.specs.Lines.{further_then}
use Rattle.teg_text.specs.WordsOfNames.{name_of_place}
use Rattle.teg_text.proofs.Joining.{line_ends}
use Rattle.teg_text.proofs.names.push_circuit.Goals as goal

pub returns : goal.returns
unfolding lib.Utf8.encode
returns c =
    let name = name_of_place c.args.net.now in
    let places = c.args.circuit.now.places.items in
    line_ends name places (string_bytes c.push_str.new.self) (string_bytes c.push_places.new.text) _ c.in_ok-push_places.ensures c.in_ok-push.ensures.bytes
    ∙ (ap (λ (l : List ℕ). l ++ further_then (map name places) []) c.in_ok-push_str.ensures.bytes
    ∙ append_assoc (string_bytes c.args.text.now) (codes "circuit") (further_then (map name places) []))
