use Rattle.std.proofs.Common.{◌≡◌, ◌-◌, length}
use Rattle.teg_net.specs.Nets.{without_inputs}
use Rattle.date_rows.specs.Streams.{IsStreamOf, rows_given}
use Rattle.forever_laws.specs.Late.{NoneLateTo}
use Rattle.teg_forever.specs.LateFirings.{InLeastAtZero}
use Rattle.teg_forever.proofs.alone.late_to.Given as goal

abbrev pub invariant-loop-number : goal.invariant-loop-number
invariant-loop-number l = record {
  stands : IsStreamOf (without_inputs l.plain.net) l.stream;
  given : rows_given l.stream ≡ l.number - 1;
  full : length l.dates ≡ length l.plain.net.transitions;
  none : InLeastAtZero l.plain.net (λ x. NoneLateTo x l.plain.row (l.number - 1));
}
