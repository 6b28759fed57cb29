use Rattle.std.proofs.Common.{◌≤◌, length, take}
use Rattle.std.specs.BinaryHeap.{heap_items, heap_len}
use Rattle.teg_critical.specs.LeastLosses.{AreSettled}
use Rattle.teg_critical.proofs.Queueing.{left}
use Rattle.teg_critical.proofs.searches.least_losses.Given as goal
use Rattle.teg_critical.proofs.SearchStates.{IsQueueing}

abbrev pub invariant-search : goal.invariant-search
invariant-search l = IsQueueing l.known.net.now l.known.losses.now l.end l.least.items l.settled.items (heap_items l.queue) ×
    (l.next ≤ length l.wanted) × AreSettled l.settled.items (take l.next l.wanted)

abbrev pub decreases-search : goal.decreases-search
decreases-search l = left l.settled.items l.known.leaving.now (heap_len l.queue)
