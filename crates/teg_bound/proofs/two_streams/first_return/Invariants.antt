use Rattle.std.proofs.Common.{◌-◌, ◌≤◌}
use Rattle.std.specs.Prelude.{All}
use Rattle.teg_bound.specs.MadeRows.{AreMadeOf}
use Rattle.teg_bound.proofs.two_streams.first_return.Given as goal

abbrev pub invariant-search : goal.invariant-search
invariant-search g l = record {
  early_is : AreMadeOf l.net l.early;
  late_is : AreMadeOf l.net l.late;
  early_in : l.early.stream.last.number ≤ l.last;
  late_in : l.late.stream.last.number ≤ l.last;
  some : 9 ≤ l.last;
  tokens : All (λ p. p.tokens ≤ l.last) l.net.places;
  few : l.last ≤ 200000000000000000;
}

abbrev pub decreases-search : goal.decreases-search
decreases-search g l = g.enough - l.last
