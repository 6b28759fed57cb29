use Rattle.teg_net.specs.Circuits.{place_at}
use Rattle.teg_state.proofs.LeftPlaces.{ready_more}
use Rattle.teg_state.proofs.places.ready_dates.Goals as goal

pub loop-index-preserved : goal.loop-index-preserved
loop-index-preserved c =
    rw (c.in_ok-push.ensures.items, c.max.ensures)
    (ready_more c.args.from.now (place_at c.args.net.now c.args.id) c.args.taken c.args.now c.loop-index.index c.token_date-date.result c.loop-index.ready.items c.loop-index.invariant
    c.token_date-date.ensures)
