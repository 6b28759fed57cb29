use Rattle.std.proofs.Common.{ap}
use Rattle.teg_settle.proofs.walk_times_proofs.Walking.{input_within}
use Rattle.teg_transfer.proofs.MovedTimes.{moved_from_one}
use Rattle.teg_transfer.proofs.transfer.next_times.Goals as goal

pub times_by_another-requires-clause-leaving : goal.times_by_another-requires-clause-leaving
times_by_another-requires-clause-leaving c = rw c.net-held.ensures.net c.requires.leaving

pub times_by_another-requires-clause-input : goal.times_by_another-requires-clause-input
times_by_another-requires-clause-input c = rw c.net-held.ensures.net (input_within c.args.net.now c.args.input.index c.requires.input)

pub times_by_another-requires-clause-times : goal.times_by_another-requires-clause-times
times_by_another-requires-clause-times c = rw c.net-held.ensures.net (λ k d l. input_within c.args.net.now _ (c.requires.inputs k d l))

pub returns-in-Some-clause-from : goal.returns-in-Some-clause-from
returns-in-Some-clause-from c = let moved = rw c.in-Some.is at c.in_ok-from.ensures in ap (λ t. t.from) moved.2.is

pub returns-in-Some-clause-times : goal.returns-in-Some-clause-times
returns-in-Some-clause-times c =
    let net = c.args.net.now in
    let moved = rw c.in-Some.is at c.in_ok-from.ensures in
    moved_from_one net (rw c.net-held.ensures.net at c.rules.ensures) c.net-held.ensures.live c.walk_times_settle.ensures c.args.asked.now.limit c.args.input c.args.times.now _
    c.requires.input c.requires.inputs c.requires.times (rw c.net-held.ensures.net at moved)
