use Rattle.std.proofs.Common.{◌≡◌, None, Some, get_or, sym, ap, subst, ◌∙◌, rules}
use Rattle.std.specs.Prelude.{◌+ℤ◌, IsSome}
use Rattle.std.proofs.lemmas.List.{get_or_read}
use Rattle.std.proofs.lemmas.Int.{to_z-of_z}
use mir.Val.{SFits, to_z, of_z}
use mir.Syntax.{w128}
use Rattle.teg_net.specs.declared.entries.Place.{Place}
use Rattle.teg_net.specs.Circuits.{no_place, place_at, from_of}
use Rattle.teg_net.specs.ReducedTimes.{reduced_time, IsMagnitudeWithin}
use Rattle.teg_net.specs.Limits.{greatest_scaled_potential}
use Rattle.teg_howard.specs.FoundCircuits.{value_held, value_or_zero}
use Rattle.teg_howard.proofs.Values.{some_of}
use Rattle.policy_rounds.proofs.BestCircuits.{fits_within}
use Rattle.teg_howard.proofs.offers.offer_from.Goals as goal

pub unwrap-value-requires : goal.unwrap-value-requires
unwrap-value-requires c =
    let net = c.args.net.now in
    let id = c.args.id in
    let item : c.index-places-id.result ≡ place_at net id =
    rw c.places.ensures.value at (get_or_read c.places.result.now id.index c.index-places-id.result
    (rw c.places.ensures.value c.requires.place) c.index-places-id.is no_place) in
    subst (λ (x : Place). IsSome (get_or c.args.values.now x.from.index None)) (sym item) (some_of (value_held c.args.values.now (from_of net id)) c.requires.start)

pub offer-requires-clause-within : goal.offer-requires-clause-within
offer-requires-clause-within c =
    let net = c.args.net.now in
    let id = c.args.id in
    let values = c.args.values.now in
    let z = c.unwrap-value.result in
    let item : c.index-places-id.result ≡ place_at net id =
    rw c.places.ensures.value at (get_or_read c.places.result.now id.index c.index-places-id.result
    (rw c.places.ensures.value c.requires.place) c.index-places-id.is no_place) in
    let e : value_held values (from_of net id) ≡ Some z = subst (λ (x : Place). get_or values x.from.index None ≡ Some z) item c.unwrap-value.ensures in
    let within : IsMagnitudeWithin greatest_scaled_potential z = subst (IsMagnitudeWithin greatest_scaled_potential) (ap value_or_zero e) c.requires.within in
    rw (to_z-of_z w128 z (fits_within z within)) within

pub returns : goal.returns
returns c =
    let net = c.args.net.now in
    let id = c.args.id in
    let values = c.args.values.now in
    let z = c.unwrap-value.result in
    let item : c.index-places-id.result ≡ place_at net id =
    rw c.places.ensures.value at (get_or_read c.places.result.now id.index c.index-places-id.result
    (rw c.places.ensures.value c.requires.place) c.index-places-id.is no_place) in
    let e : value_held values (from_of net id) ≡ Some z = subst (λ (x : Place). get_or values x.from.index None ≡ Some z) item c.unwrap-value.ensures in
    let within : IsMagnitudeWithin greatest_scaled_potential z = subst (IsMagnitudeWithin greatest_scaled_potential) (ap value_or_zero e) c.requires.within in
    let same : to_z w128 (of_z w128 z) ≡ z = to_z-of_z w128 z (fits_within z within) in
    let fits : SFits w128 c.offer.result = search rules in
    let made : c.offer.result ≡ (reduced_time net c.args.ratio.time c.args.ratio.tokens id +ℤ z) = rw (item, same) at c.offer.ensures in
    to_z-of_z w128 c.offer.result fits ∙ (made ∙ ap (λ x. reduced_time net c.args.ratio.time c.args.ratio.tokens id +ℤ x) (sym (ap value_or_zero e)))
