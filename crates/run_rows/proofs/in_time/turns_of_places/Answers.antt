use Rattle.std.proofs.Common.{arith}
use Rattle.run_rows.specs.TurnsLeft.{IsPlaceInTime}
use Rattle.run_rows.proofs.Ordered.{fewer_way, next_all}
use Rattle.run_rows.proofs.in_time.turns_of_places.Goals as goal

pub loop-place-preserved : goal.loop-place-preserved
loop-place-preserved c =
    let inv = c.loop-place.invariant in
    let own = c.turns_of_way-turns.ensures in
    let r = c.turns_of_way-turns.result in
    let item = rw c.places-place-items.ensures.value at c.place-item.is in
    let way = c.way_of.ensures in
    let below = rw c.places-place-items.ensures.value at c.loop-place-test.true in
    record {
      within = omega (arith, own.within, inv.within);
      in_time = next_all (IsPlaceInTime r c.args.last.now.after c.args.last.now.rows.now c.args.last.now.run.now) c.args.last.now.of.net.now.places c.loop-place.place-index c.place-item.result below item (rw (way.from, way.to, way.tokens, way.hold) at own.in_time)
          (λ i d m. fewer_way _ r _ _ _ _ _ _ _ own.within (inv.in_time i d m));
    }
