use Rattle.std.proofs.Common.{sym}
use Rattle.teg_due.specs.csv.Records.{fields_of}
use Rattle.teg_due.proofs.csv_proofs.RecordFacts.{field-get, field-there}
use Rattle.endless_due.proofs.numbers.field_at.Goals as goal

pub unreachable-requires : goal.unreachable-requires
unreachable-requires c = field-there (fields_of c.args.record.now) c.args.index c.requires (sym c.in-None.ensures.value)

pub returns : goal.returns
returns c = sym (field-get (fields_of c.args.record.now) c.args.index c.in-Some.field.now (sym c.in-Some.ensures.value))
