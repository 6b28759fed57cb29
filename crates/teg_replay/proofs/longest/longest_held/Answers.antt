use Rattle.std.proofs.Common.{arith}
use Rattle.teg_replay.proofs.LongestHeld.{lists_more}
use Rattle.teg_replay.proofs.longest.longest_held.Goals as goal

pub longest_of-requires : goal.longest_of-requires
longest_of-requires c = record { into = rw c.of.ensures (c.requires.into.each c.loop-index.index (rw c.transitions-width.ensures.value at c.loop-index-test.true)) }

pub loop-index-preserved : goal.loop-index-preserved
loop-index-preserved c =
    rw c.in_ok-push.ensures.items
    (lists_more c.args.net.now c.loop-index.lists.items c.loop-index.index c.in_ok-list.list c.loop-index.invariant c.in_ok-list.ensures)

pub returns-clause-each : goal.returns-clause-each
returns-clause-each c =
    let end = rw c.transitions-width.ensures.value at c.loop-index-test.false in
    λ t l. c.loop-index.invariant.each t (omega (arith, end, l))
