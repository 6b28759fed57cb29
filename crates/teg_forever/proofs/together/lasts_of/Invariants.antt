use Rattle.std.proofs.Common.{◌≡◌, length}
use Rattle.teg_forever.specs.TogetherRows.{AreLasts}
use Rattle.teg_forever.proofs.together.lasts_of.Given as goal

abbrev pub invariant-loop-place : goal.invariant-loop-place
invariant-loop-place l = record {
  count : length l.lasts.items ≡ l.place;
  lasts : AreLasts l.due.net l.due.rows l.lasts.items;
}
