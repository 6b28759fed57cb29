use Rattle.teg_parts.specs.PartNumbers.{AreInOrderOf, AreInnerMarks}
use Rattle.teg_parts.proofs.Ordering.{are_parts}
use Rattle.teg_parts.proofs.strong_parts.split.Goals as goal

pub returns : goal.returns
returns c =
    let net = c.args.net.now in
    let found = c.in_ok-found.found.items in
    let order : AreInOrderOf net found c.in_ok-part_of.part_of.items c.in_ok-part_of.count = rw c.deref.ensures.value at c.in_ok-part_of.ensures.order in
    let marks : AreInnerMarks net c.in_ok-part_of.part_of.items c.in_ok-inner.inner.items = rw c.deref-2.ensures.value at c.in_ok-inner.ensures.marks in
    rw c.new.ensures (are_parts net c.in_ok-part_of.ensures.rules found c.in_ok-found.ensures c.in_ok-part_of.part_of.items
    c.in_ok-part_of.count order c.in_ok-inner.inner.items c.in_ok-inner.ensures.long marks)
