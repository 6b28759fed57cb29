use Rattle.std.proofs.Common.{◌≡◌, ◌++◌, drop, map}
use Rattle.std.specs.Prelude.{nat_le}
use Rattle.std.specs.List.{list_all}
use Rattle.std.specs.Str.Parse.{digits_value}
use Rattle.teg_due.specs.csv.Records.{fields_of}
use Rattle.teg_net.specs.Limits.{greatest_input_date}
use Rattle.endless_due.specs.EndlessFiles.{dates_of_fields}
use Rattle.endless_due.proofs.numbers.dates_of.Given as goal

abbrev pub invariant-loop-index : goal.invariant-loop-index
invariant-loop-index l = record {
  same : l.dates.items ++ map (digits_value 10) (drop l.index (fields_of l.«record»)) ≡ dates_of_fields (fields_of l.«record»);
  small : list_all (λ d. nat_le d greatest_input_date) (map (digits_value 10) (drop l.index (fields_of l.«record»))) ≡ list_all
      (λ d. nat_le d greatest_input_date) (dates_of_fields (fields_of l.«record»));
}
