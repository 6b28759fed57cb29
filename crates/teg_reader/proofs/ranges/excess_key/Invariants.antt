use Rattle.std.proofs.Common.{◌≡◌, drop}
use Rattle.toml.specs.View.{view}
use Rattle.teg_reader.specs.WrongKinds.{first_failing}
use Rattle.teg_reader.specs.Ranges.{in_range}
use Rattle.teg_reader.proofs.ranges.excess_key.Given as goal

abbrev pub invariant-loop-field : goal.invariant-loop-field
invariant-loop-field l = first_failing (λ f. in_range l.section (view l.entry) f.0) (drop l.field-index l.fields) ≡ first_failing (λ f. in_range l.section (view l.entry) f.0) l.fields
