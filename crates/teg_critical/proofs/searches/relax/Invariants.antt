use Rattle.std.proofs.Common.{◌+◌, ◌≤◌, take}
use Rattle.std.specs.BinaryHeap.{heap_items, heap_len}
use Rattle.teg_critical.specs.LeastLosses.{AreQueued, IsRelaxed}
use Rattle.teg_critical.proofs.searches.relax.Given as goal

abbrev pub invariant-loop-place : goal.invariant-loop-place
invariant-loop-place l =
    IsRelaxed l.known.net.now l.known.losses.now l.at l.base (take l.place-index l.places) l.initial.least l.least
    × AreQueued l.initial.least l.least (heap_items l.initial.queue) (heap_items l.queue) × (heap_len l.queue ≤ heap_len l.initial.queue + l.place-index)
