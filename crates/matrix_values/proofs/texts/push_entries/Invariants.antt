use Rattle.std.proofs.Common.{◌≡◌, ◌++◌, string_bytes}
use Rattle.matrix_values.specs.MatrixTexts.{entries_told}
use Rattle.matrix_values.proofs.texts.push_entries.Given as goal

abbrev pub invariant-loop-column : goal.invariant-loop-column
invariant-loop-column l = string_bytes l.text ≡ string_bytes l.initial.text ++ entries_told l.a l.row l.column
