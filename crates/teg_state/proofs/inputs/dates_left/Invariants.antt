use Rattle.std.proofs.Common.{◌≡◌, ◌≤◌, length}
use Rattle.teg_state.specs.LeftLists.{AreBegun}
use Rattle.teg_state.proofs.FarLists.{IsSearched}
use Rattle.teg_state.proofs.inputs.dates_left.Given as goal

abbrev pub invariant-loop-count : goal.invariant-loop-count
invariant-loop-count l = record {
  count : length l.dates.items ≡ l.count;
  few : l.clear ≤ l.count;
  begun : AreBegun l.net l.history.run l.fn.now l.list.transition.index l.dates.items l.clear;
  searched : IsSearched l.net l.history.run l.fn.now l.list l.count l.clear;
}
