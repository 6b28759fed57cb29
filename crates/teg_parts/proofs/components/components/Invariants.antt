use Rattle.std.proofs.Common.{ℕ, ◌<◌, ◌≢◌, None}
use Rattle.teg_parts.specs.Components.{AreFound, found_at}
use Rattle.teg_parts.proofs.components.components.Given as goal

abbrev pub invariant-loop-root : goal.invariant-loop-root
invariant-loop-root l = record {
  found : AreFound l.net l.found.items;
  all : (t : ℕ) → t < l.root → found_at l.found.items t ≢ None;
}
