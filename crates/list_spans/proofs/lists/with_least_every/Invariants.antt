use Rattle.std.specs.Prelude.{⊤}
use Rattle.list_spans.proofs.lists.with_least_every.Given as goal

abbrev pub invariant-loop-every : goal.invariant-loop-every
invariant-loop-every l = ⊤
