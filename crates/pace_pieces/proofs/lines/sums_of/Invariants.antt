use Rattle.std.proofs.Common.{◌≡◌, ◌≤◌, ◌*◌, take}
use Rattle.teg_net.specs.Limits.{greatest_hold}
use Rattle.pace_pieces.specs.Pieces.{passes_of, rest_of}
use Rattle.pace_pieces.proofs.lines.sums_of.Given as goal

abbrev pub invariant-loop-id : goal.invariant-loop-id
invariant-loop-id l = record {
  rest : l.rest ≡ rest_of l.net l.place (take l.id-index l.places);
  passes : l.passes ≡ passes_of l.place (take l.id-index l.places);
  rest_most : l.rest ≤ greatest_hold * l.id-index;
  passes_most : l.passes ≤ l.id-index;
}
