use Rattle.std.proofs.Common.{◌≡◌, string_bytes}
use Rattle.matrix_values.specs.MatrixTexts.{rows_told}
use Rattle.matrix_values.proofs.texts.matrix_text.Given as goal

abbrev pub invariant-loop-row : goal.invariant-loop-row
invariant-loop-row l = string_bytes l.text ≡ rows_told l.a l.row
