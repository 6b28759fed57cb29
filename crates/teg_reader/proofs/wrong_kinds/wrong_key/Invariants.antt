use Rattle.std.proofs.Common.{◌≡◌, drop}
use Rattle.toml.specs.View.{view}
use Rattle.teg_reader.specs.WrongKinds.{has_kind, first_failing}
use Rattle.teg_reader.proofs.wrong_kinds.wrong_key.Given as goal

abbrev pub invariant-loop-field : goal.invariant-loop-field
invariant-loop-field l = first_failing (has_kind (view l.entry)) (drop l.field-index l.fields) ≡ first_failing (has_kind (view l.entry)) l.fields
