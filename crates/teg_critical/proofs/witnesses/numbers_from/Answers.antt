use Rattle.std.proofs.Common.{◌≡◌, true, length, replicate, ap, ◌∙◌, arith, rules}
use Rattle.teg_critical.proofs.WitnessLaws.{numbers_rise}
use Rattle.teg_critical.proofs.witnesses.numbers_from.Goals as goal

pub returns : goal.returns
returns c =
    let net = c.args.net.now in
    let hops = c.in_ok-hops.hops.items in
    let filled : c.in_ok-usable.usable.items ≡ replicate (length c.places.result.now) true = c.in_ok-usable.ensures.items_if_clones_equal (search rules) in
    let end : c.loop-hop.hop-index ≡ length hops = omega (arith, c.loop-hop-test.false, c.loop-hop.auto.hop-index-end) in
    let h = rw (end, c.deref-hop-items.ensures.value) at c.loop-hop.invariant in
    numbers_rise net c.in_ok-hops.ensures.rules c.args.place c.requires.place c.in_ok-usable.usable.items (filled ∙ ap (λ z. replicate (length z) true) c.places.ensures.value)
    hops (rw c.deref.ensures.value at c.in_ok-hops.ensures.hops) (rw c.deref.ensures.value at c.in_ok-hops.ensures.closed) (c.requires.none c.in_ok-hops.ensures.rules) c.loop-hop.numbers.items h.0 h.1
