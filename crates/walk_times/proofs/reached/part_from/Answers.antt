use Rattle.std.proofs.Common.{◌≡◌, [], arith, rules}
use Rattle.teg_net.specs.Nets.{lists_of}
use Rattle.walk_times.proofs.Numbering.{all_within}
use Rattle.walk_times.proofs.ReachedPart.{part_is_net}
use Rattle.walk_times.proofs.Walking.{input_within}
use Rattle.walk_times.proofs.reached.part_from.Goals as goal

pub marks_from-requires : goal.marks_from-requires
marks_from-requires c = input_within c.args.net.now c.args.input.index c.requires

pub those_of-requires : goal.those_of-requires
those_of-requires c =
    let numbers = rw (c.deref.ensures.value, c.in_ok-marks.ensures.count) at c.in_ok-numbers.ensures in
    rw (c.transitions.ensures.value, c.deref-2.ensures.value) (all_within c.in_ok-marks.marks.items _ c.in_ok-numbers.numbers.old.items c.in_ok-numbers.numbers.new.items numbers)

pub new-requires-2 : goal.new-requires-2
new-requires-2 c =
    let net = c.args.net.now in
    let marks = c.in_ok-marks.ensures in
    let numbers = rw (c.deref.ensures.value, marks.count) at c.in_ok-numbers.ensures in
    let some = numbers.found c.args.input.index (input_within net c.args.input.index c.requires) marks.closed.begins in
    let ts = rw (c.transitions.ensures.value, c.deref-2.ensures.value) at c.in_ok-transitions.ensures in
    let ps = rw (c.deref-3.ensures.value, c.deref-4.ensures.value) at c.in_ok-places.ensures in
    let none : c.new.result.items ≡ [] = search rules in
    part_is_net net c.in_ok-marks.marks.items c.in_ok-numbers.numbers.old.items c.in_ok-numbers.numbers.new.items numbers marks.closed.leads_on
    (lists_of c.in_ok-transitions.transitions.items c.in_ok-places.places.items c.new.result.items) ts ps c.transitions.ensures.rules (omega (arith, some)) none
