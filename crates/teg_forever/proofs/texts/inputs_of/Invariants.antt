use Rattle.std.proofs.Common.{◌≡◌, ◌<◌, All, length, map}
use Rattle.teg_forever.specs.LatestReleases.{inputs_below}
use Rattle.teg_forever.proofs.texts.inputs_of.Given as goal

abbrev pub invariant-loop-index : goal.invariant-loop-index
invariant-loop-index l = record {
  inputs : map (λ t. t.index) l.inputs.items ≡ inputs_below l.net l.index;
  within : All (λ t. t.index < length l.net.transitions) l.inputs.items;
}
