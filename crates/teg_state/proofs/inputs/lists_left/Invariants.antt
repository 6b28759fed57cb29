use Rattle.teg_state.specs.LeftLists.{AreListsLeft, AreNear}
use Rattle.teg_state.proofs.inputs.lists_left.Given as goal

abbrev pub invariant-loop-index : goal.invariant-loop-index
invariant-loop-index l = record {
  lists : AreListsLeft l.net l.history.run l.fn.now l.index l.lists.items;
  near : AreNear l.net l.history.run l.fn.now l.index;
}
