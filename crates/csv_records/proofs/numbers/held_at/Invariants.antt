use Rattle.std.proofs.Common.{◌≡◌, ◌≤◌, take, min}
use Rattle.std.specs.Str.Parse.{digits_value}
use Rattle.csv_records.proofs.numbers.held_at.Given as goal

-- the number that the digits so far write
abbrev pub invariant-loop-digit : goal.invariant-loop-digit
invariant-loop-digit l = record {
  value : l.value ≡ min (digits_value 10 (take l.digit-index l.field)) l.past;
  fits : l.value ≤ l.past;
}
