use Rattle.std.proofs.Common.{◌≡◌, ◌<◌, List, [], length, get_or, replicate, sym, ap, subst, ◌∙◌, arith}
use Rattle.teg_net.specs.declared.entries.PlaceId.{PlaceId}
use Rattle.teg_net.specs.declared.entries.Transition.{Transition}
use Rattle.std.proofs.lemmas.List.{get_or_read}
use Rattle.teg_net.specs.Nets.{IsPlaceOf}
use Rattle.teg_net.specs.Circuits.{no_place}
use Rattle.teg_net.specs.PlaceLists.{place_end}
use Rattle.teg_net.proofs.PlaceListLaws.{end_number, none_listed, listed_more, all_listed, end_in_range}
use Rattle.teg_net.proofs.places_of.PlacesOf.new.Goals as goal

pub loop-index-init : goal.loop-index-init
loop-index-init c =
    none_listed c.args.net.now c.args.end c.in_ok-lists.lists.items (c.in_ok-lists.ensures ∙ ap (λ (ts : List Transition). replicate {A = List PlaceId} (length ts) []) c.transitions.ensures.value)

pub loop-index-preserved : goal.loop-index-preserved
loop-index-preserved c =
    let net = c.args.net.now in
    let i = c.loop-index.index in
    let lists = c.loop-index.lists.items in
    let which = c.args.end in
    let in' : i < length net.places = rw c.places-place-items.ensures.value at c.loop-index-test.true in
    let read = get_or_read c.places-place-items.result.now i c.place-item.result c.loop-index-test.true c.place-item.is no_place in
    let item : c.place-item.result ≡ get_or net.places i no_place = rw c.places-place-items.ensures.value at read in
    let own : IsPlaceOf net (get_or net.places i no_place) = c.transitions.ensures.rules.each_place i no_place in' in
    let t = c.end_of-transition.result in
    let is : end_number net which (record { index = i }) ≡ t = ap (λ p. (place_end which p).index) (sym item) ∙ sym c.end_of-transition.ensures in
    let t_in : t < length net.transitions = subst (λ n. n < length net.transitions) is (end_in_range net which (get_or net.places i no_place) own) in
    let t_in2 : t < length lists = rw c.loop-index.invariant.count t_in in
    let was : c.index_mut.result.now ≡ get_or lists t [] = get_or_read lists t c.index_mut.result.now t_in2 c.index_mut.ensures.value [] in
    rw (c.in_ok-push.ensures, was) (listed_more net which lists i t c.loop-index.invariant is t_in)

pub returns : goal.returns
returns c =
    let done : length c.places-place-items.result.now ≡ c.loop-index.index = omega (arith, c.loop-index-test.false, c.loop-index.auto.index-end) in
    all_listed c.args.net.now c.args.end c.loop-index.lists.items c.loop-index.index (rw c.places-place-items.ensures.value at done) c.loop-index.invariant
