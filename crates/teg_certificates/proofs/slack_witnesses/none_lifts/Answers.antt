use Rattle.std.proofs.Common.{◌≡◌, ◌<◌, true, false, length, below_more}
use Rattle.std.proofs.lemmas.Bool.{false≢true, iff_false}
use Rattle.teg_net.specs.declared.entries.PlaceId.{PlaceId}
use Rattle.teg_net.specs.Circuits.{place_at}
use Rattle.teg_net.proofs.Reading.{read_place}
use Rattle.teg_certificates.specs.SlackWitnesses.{LiftsNoneWith, gain_at}
use Rattle.teg_certificates.proofs.slack_witnesses.none_lifts.Goals as goal

pub returns-then-not-lifts_none : goal.returns-then-not-lifts_none
returns-then-not-lifts_none c =
    let net = c.args.net.now in
    let p : PlaceId = record { index = c.loop-number.number } in
    let own_in : p.index < length net.places = rw c.places-own-items.ensures.value at c.loop-number-test.true in
    let item : c.own-item.result ≡ place_at net p = read_place net c.places-own-items.result.now p c.own-item.result c.places-own-items.ensures.value own_in c.own-item.is in (
      λ (e : false ≡ true). absurd (false≢true e),
      λ h. absurd (iff_false c.lifts_none.ensures c.if-not-lifts_none.true (rw (c.gain_at.ensures.value, item) (h p own_in))),
    )

pub loop-number-preserved : goal.loop-number-preserved
loop-number-preserved c =
    let net = c.args.net.now in
    let r = c.args.ratio in
    let vs = c.args.potentials.now in
    let p : PlaceId = record { index = c.loop-number.number } in
    let own_in : p.index < length net.places = rw c.places-own-items.ensures.value at c.loop-number-test.true in
    let item : c.own-item.result ≡ place_at net p = read_place net c.places-own-items.result.now p c.own-item.result c.places-own-items.ensures.value own_in c.own-item.is in
    let here : LiftsNoneWith r vs (gain_at r c.args.place c.args.by p) (place_at net p) = rw (c.gain_at.ensures.value, item) at (c.lifts_none.ensures.0 c.if-not-lifts_none.false) in
    below_more _ _ c.loop-number.invariant here
