use Rattle.std.proofs.Common.{rules, ◌≡◌, length, slice_index_or, ap, subst, arith}
use Rattle.teg_text.proofs.Listing.{all_below}
use Rattle.answer_check.specs.declared.slack.ShownSlack.TheVariants.{NoCircuit}
use Rattle.answer_check.specs.ShownSlacks.{AreToldOfPlaces, TellsOfPlace}
use Rattle.answer_check.proofs.slack.are_seen.Goals as goal

pub loop-index-preserved : goal.loop-index-preserved
loop-index-preserved c = λ r e.
    let net = c.args.net.now in
    let slacks = c.args.slacks.now in
    all_below (λ i. TellsOfPlace net r (record { index = i }) (slice_index_or slacks i NoCircuit)) c.loop-index.index (c.loop-index.invariant r e)
    (c.in_ok-is_seen.ensures (search rules) r e)

pub returns : goal.returns
returns c = λ y r e.
    let all : c.loop-index.index ≡ length c.args.net.now.places =
    omega (arith, c.loop-index-test.false, c.loop-index.auto.index-end, ap length c.places-index-end.ensures.value) in
    subst (λ n. AreToldOfPlaces c.args.net.now r n c.args.slacks.now) all (c.loop-index.invariant r e)
