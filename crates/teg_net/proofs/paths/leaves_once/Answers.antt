use Rattle.std.proofs.Common.{◌≡◌, ◌<◌, List, length, get_or, false, true, ap, sym, subst}
use Rattle.std.proofs.lemmas.List.{get_or_default}
use Rattle.teg_net.specs.declared.entries.Place.{Place}
use Rattle.teg_net.specs.declared.entries.PlaceId.{PlaceId}
use Rattle.teg_net.specs.Nets.{NetLists}
use Rattle.teg_net.specs.Circuits.{from_of, no_place}
use Rattle.teg_net.proofs.Distinct.{rest_twice, apart_more, not_both}
use Rattle.teg_net.proofs.PathLaws.{no_id}
use Rattle.teg_net.proofs.paths.leaves_once.Goals as goal

-- the transition that was read is that which the place leaves
read_from : (net : NetLists) (own : List Place) (p : PlaceId) (place : Place) → own ≡ net.places → p.index < length net.places → from_of net p ≡ (get_or own p.index place).from.index
read_from net own p place v l =
    subst (λ z. from_of net p ≡ (get_or z p.index place).from.index) (sym v) (ap (λ z. z.from.index) (get_or_default net.places p.index no_place place l))

pub returns-then-any_leaves : goal.returns-then-any_leaves
returns-then-any_leaves c =
    let net = c.args.net.now in
    let ps = c.args.places.now in
    let i = c.loop-index.index in
    let l : i < length ps = c.loop-index-test.true in
    let t = (get_or c.places-own.result.now (get_or ps i no_id).index c.index-own-id.result).from.index in
    let same = read_from net c.places-own.result.now (get_or ps i no_id) c.index-own-id.result c.places-own.ensures.value (c.requires i no_id l) in
    let later = c.any_leaves.ensures.0 c.if-any_leaves.true in
    (λ (e : false ≡ true). cc, λ once. absurd (rest_twice (from_of net) ps i no_id t l same later once))

pub loop-index-preserved : goal.loop-index-preserved
loop-index-preserved c =
    let net = c.args.net.now in
    let ps = c.args.places.now in
    let i = c.loop-index.index in
    let l : i < length ps = c.loop-index-test.true in
    let t = (get_or c.places-own.result.now (get_or ps i no_id).index c.index-own-id.result).from.index in
    let same = read_from net c.places-own.result.now (get_or ps i no_id) c.index-own-id.result c.places-own.ensures.value (c.requires i no_id l) in
    apart_more (from_of net) ps i no_id t l same (λ any. not_both c.any_leaves.result c.if-any_leaves.false (c.any_leaves.ensures.1 any)) c.loop-index.invariant
