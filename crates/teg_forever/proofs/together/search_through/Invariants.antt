use Rattle.std.proofs.Common.{◌≡◌, ◌-◌, length}
use Rattle.date_rows.specs.Streams.{IsStreamOf, rows_given}
use Rattle.teg_forever.specs.TogetherRows.{IsSearchedTo}
use Rattle.teg_forever.proofs.together.search_through.Given as goal

abbrev pub invariant-loop-number : goal.invariant-loop-number
invariant-loop-number l = record {
  stands : IsStreamOf l.plain l.stream;
  given : rows_given l.stream ≡ l.number - 1;
  full : length l.dates ≡ length l.due.net.transitions;
  searched : IsSearchedTo l.due.net l.due.rows l.lasts (l.number - 1) l.search;
}
