use Rattle.std.proofs.Common.{[], ◌++◌, List, ℕ, codes, ap, ◌∙◌, append_assoc, string_bytes}
use Rattle.teg_text.specs.Lines.{line_then}
use Rattle.teg_text.specs.WordsOfNames.{circuit_line}
use Rattle.teg_timetable.proofs.texts.push_kept.Goals as goal

pub returns : goal.returns
returns c =
    let line = line_then (circuit_line c.args.net.now c.args.circuit.now.places.items) [] in
    c.in_ok-push_circuit.ensures
    ∙ (ap (λ (l : List ℕ). l ++ line) c.in_ok-push_str.ensures.bytes ∙ append_assoc (string_bytes c.args.text.now) (codes "kept\n") line)
