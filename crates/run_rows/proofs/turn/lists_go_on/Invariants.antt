use Rattle.std.proofs.Common.{ℕ, ◌<◌, get_or}
use Rattle.teg_net.specs.declared.entries.InputList.{InputList}
use Rattle.jump_laws.specs.ListedJumps.{GoesOnInTurns}
use Rattle.run_rows.proofs.turn.lists_go_on.Given as goal

abbrev pub invariant-loop-list : goal.invariant-loop-list
invariant-loop-list l = (i : ℕ) (d : InputList) → i < l.list-index → GoesOnInTurns l.turn l.after (get_or l.net.inputs i d)
