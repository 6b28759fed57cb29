use Rattle.teg_parts.proofs.Rooted.{RootedTo}
use Rattle.teg_parts.proofs.components.give_root.Given as goal

abbrev pub invariant-loop-transition : goal.invariant-loop-transition
invariant-loop-transition l = RootedTo l.onward l.back l.root l.initial.found l.found l.transition
