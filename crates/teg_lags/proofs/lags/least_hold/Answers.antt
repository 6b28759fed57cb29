use Rattle.std.proofs.Common.{◌≤◌, All, length, subst}
use Rattle.std.proofs.lemmas.List.{take_all}
use Rattle.teg_net.specs.Circuits.{place_at}
use Rattle.teg_lags.proofs.Lagged.{least_more}
use Rattle.teg_lags.proofs.lags.least_hold.Goals as goal

pub loop-place-preserved : goal.loop-place-preserved
loop-place-preserved c =
    least_more c.args.net.now c.args.places.now c.loop-place.place-index _ c.loop-place.least c.min-least.result c.place_of.result.now c.loop-place-test.true
    c.place_of.ensures c.min-least.ensures c.loop-place.invariant

pub returns-clause-least : goal.returns-clause-least
returns-clause-least c =
    let low : length c.args.places.now ≤ c.loop-place.place-index = c.loop-place-test.false in
    subst (All (λ p. c.loop-place.least ≤ (place_at c.args.net.now p).hold)) (take_all c.loop-place.place-index c.args.places.now low) c.loop-place.invariant.1
