use Rattle.std.proofs.Common.{subst, sym}
use Rattle.teg_net.specs.Nets.{IsPlaceOf}
use Rattle.teg_forever.proofs.KeepingPace.{weighable}
use Rattle.teg_forever.proofs.pace.raise_all.Goals as goal

pub reduced_time-requires : goal.reduced_time-requires
reduced_time-requires c =
    let net = c.net-net.result.now in
    let p = c.place-item.result in
    let within = rw c.places-place-items.ensures.value at c.loop-place-test.true in
    let item = rw c.places-place-items.ensures.value at c.place-item.is in
    weighable net _ c.row-row.result.now p c.row-row.ensures.rules (subst (IsPlaceOf net) (sym item) (c.places-place-items.ensures.rules.each_place c.loop-place.place-index p within))
