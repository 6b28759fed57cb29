use Rattle.std.proofs.Common.{◌≡◌, ◌≤◌, ◌*◌, take}
use Rattle.teg_net.specs.Circuits.{tokens_of}
use Rattle.teg_net.specs.Limits.{most_place_tokens}
use Rattle.teg_net.proofs.paths.tokens_of.Given as goal

abbrev pub invariant-loop-id : goal.invariant-loop-id
invariant-loop-id l = record {
  so_far : l.tokens ≡ tokens_of l.net (take l.id-index l.places);
  most : l.tokens ≤ most_place_tokens * l.id-index;
}
