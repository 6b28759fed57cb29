use Rattle.std.proofs.Common.{subst, sym}
use Rattle.teg_net.specs.Nets.{IsPlaceOf}
use Rattle.teg_reader.specs.Migrated.{place_entry}
use Rattle.teg_reader.proofs.TreeLemmas.{pushed_value}
use Rattle.teg_reader.proofs.writer.place_values.Goals as goal

pub place_value-requires : goal.place_value-requires
place_value-requires c =
    let l = rw c.places-place-items.ensures.value at c.loop-place-test.true in
    let is = rw c.places-place-items.ensures.value at c.place-item.is in
    subst (IsPlaceOf c.args.net.now) (sym is) (c.places-place-items.ensures.rules.each_place c.loop-place.place-index c.place-item.result l)

pub loop-place-preserved : goal.loop-place-preserved
loop-place-preserved c =
    let l = rw c.places-place-items.ensures.value at c.loop-place-test.true in
    let is = rw c.places-place-items.ensures.value at c.place-item.is in
    pushed_value (place_entry c.args.net.now.transitions) c.args.net.now.places c.loop-place.place-index c.place-item.result _ _ _ l is
    c.loop-place.invariant c.in_ok-place_value.ensures c.in_ok-push.ensures.items
