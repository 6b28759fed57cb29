use Rattle.std.proofs.Common.{◌≡◌, ◌≤◌, ◌*◌, take}
use Rattle.teg_net.specs.Circuits.{time_of}
use Rattle.teg_net.specs.Limits.{greatest_hold}
use Rattle.teg_net.proofs.paths.time_of.Given as goal

abbrev pub invariant-loop-id : goal.invariant-loop-id
invariant-loop-id l = record {
  so_far : l.time ≡ time_of l.net (take l.id-index l.places);
  most : l.time ≤ greatest_hold * l.id-index;
}
