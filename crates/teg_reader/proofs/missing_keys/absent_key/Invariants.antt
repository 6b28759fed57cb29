use Rattle.std.proofs.Common.{◌≡◌, drop}
use Rattle.toml.specs.View.{view}
use Rattle.teg_reader.specs.WrongKinds.{first_failing}
use Rattle.teg_reader.specs.MissingKeys.{has_needed}
use Rattle.teg_reader.proofs.missing_keys.absent_key.Given as goal

abbrev pub invariant-loop-field : goal.invariant-loop-field
invariant-loop-field l = first_failing (has_needed (view l.entry)) (drop l.field-index l.fields) ≡ first_failing (has_needed (view l.entry)) l.fields
