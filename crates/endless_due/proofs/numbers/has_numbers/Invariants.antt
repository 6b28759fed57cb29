use Rattle.std.proofs.Common.{◌≡◌, drop}
use Rattle.std.specs.List.{list_all}
use Rattle.teg_due.specs.csv.Records.{fields_of}
use Rattle.csv_records.specs.NumberFields.{is_number}
use Rattle.endless_due.proofs.numbers.has_numbers.Given as goal

abbrev pub invariant-loop-index : goal.invariant-loop-index
invariant-loop-index l = list_all is_number (drop l.index (fields_of l.«record»)) ≡ list_all is_number (drop 1 (fields_of l.«record»))
