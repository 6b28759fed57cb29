use Rattle.std.proofs.Common.{◌≡◌, length}
use Rattle.teg_howard.specs.FoundCircuits.{IsBeginning}
use Rattle.teg_howard.proofs.beginnings.greatest_first.Given as goal

abbrev pub invariant-loop-index : goal.invariant-loop-index
invariant-loop-index l = record {
  begins : IsBeginning l.net l.parts l.part l.policy.items;
  count : length l.greatest.items ≡ length l.parts;
}
