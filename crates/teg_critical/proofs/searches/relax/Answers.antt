use Rattle.std.proofs.Common.{ℕ, ◌≡◌, ◌<◌, List, [], Option, length, get_or, sym, subst, arith}
use Rattle.std.specs.BinaryHeap.{heap_items}
use Rattle.std.proofs.lemmas.List.{get_or_default}
use Rattle.teg_net.specs.declared.entries.PlaceId.{PlaceId}
use Rattle.teg_net.specs.declared.places_of.PlaceEnd.TheVariants.{From}
use Rattle.teg_net.specs.Circuits.{from_of}
use Rattle.teg_net.specs.Nets.{NetLists}
use Rattle.teg_net.specs.PlaceLists.{ListsPlacesAt}
use Rattle.teg_critical.specs.declared.losses.Loss.{Loss}
use Rattle.teg_critical.specs.LeastLosses.{CanSearch, Offers}
use Rattle.teg_critical.proofs.Queueing.{one_queued, place_past, place_taken}
use Rattle.teg_critical.proofs.searches.relax.Goals as goal
use Rattle.teg_critical.proofs.searches.relax.Goals.{in-Some+in_ok-push, in_default}

-- the places that leave a transition, as they are read
own_places : {net : NetLists} {losses : List (Option Loss)} {lists : List (List PlaceId)} {places : List PlaceId} (at : ℕ)
    → CanSearch net losses lists → at < length net.transitions → places ≡ get_or lists at [] → ListsPlacesAt net From at places
own_places {net} at can l is = subst (ListsPlacesAt net From at) (sym is) (can.leaving.each at l)

pub lesser_offer-requires-clause-place : goal.lesser_offer-requires-clause-place
lesser_offer-requires-clause-place c = (own_places c.args.at c.requires.can c.requires.at c.of-places.ensures).known c.loop-place.place-index _ c.loop-place-test.true

pub loop-place-preserved : goal.loop-place-preserved
loop-place-preserved c =
    let net = c.args.known.now.net.now in
    let places : List PlaceId = c.of-places.result.now in
    let k : ℕ = c.loop-place.place-index in
    let p : PlaceId = get_or places k (record { index = 0 }) in
    let h = c.loop-place.invariant in
    let l : k < length places = c.loop-place-test.true in
    let is : p ≡ get_or places k p = get_or_default places k (record { index = 0 }) p l in
    let from : from_of net p ≡ c.args.at = (own_places c.args.at c.requires.can c.requires.at c.of-places.ensures).right k (record { index = 0 }) l in
    elim c.match-lesser_offer.branch [
      | in-Some+in_ok-push w ↦
          let to : ℕ = w.in-Some.to in
          let loss : ℕ = w.in-Some.loss in
          let told = w.in-Some.ensures in
          let offer : Offers net c.args.known.now.losses.now c.args.at c.args.base p to loss =
          subst (λ (z : ℕ). Offers net c.args.known.now.losses.now z c.args.base p to loss) from told.some in
          rw (w.least-is, w.queue-is) (
            place_taken places k p h.0 l is to loss offer told.in_range told.less,
            one_queued c.args.least.now c.loop-place.least (heap_items c.args.queue.now) (heap_items c.loop-place.queue) (heap_items w.push.new.self) to loss h.1
                told.in_range told.less w.in_ok-push.ensures.permutation w.in_ok-push.ensures.heap_order,
            omega (arith, h.2, w.in_ok-push.ensures.len),
          )
      | in_default w ↦ rw (w.least-is, w.queue-is) (place_past places k p h.0 l is w.in_default.ensures.none, h.1, omega (arith, h.2))
    ]
