use Rattle.std.proofs.Common.{ℤ, pos, ◌≡◌, ◌<◌, ◌≤◌, ◌*◌, ◌-ℤ◌, List, Option, Some, None, length, get_or, sym, ap, ◌∙◌, arith}
use Rattle.std.specs.Prelude.{◌≤ℤ◌}
use Rattle.std.proofs.lemmas.Int.{ints}
use Rattle.teg_net.specs.declared.entries.PlaceId.{PlaceId}
use Rattle.teg_net.specs.declared.entries.Place.{Place}
use Rattle.teg_net.specs.Nets.{NetLists, IsNet}
use Rattle.teg_net.specs.Ratios.{Fraction}
use Rattle.teg_net.specs.Circuits.{no_place, place_at, from_of}
use Rattle.teg_net.specs.ReducedTimes.{reduced_time_of_place}
use Rattle.teg_sizing.specs.declared.rounds.ValueCell.{ValueCell}
use Rattle.teg_sizing.specs.ValueRounds.{IsTarget, round_at, value_told, greatest_reduced_time, most_value, no_cell}
use Rattle.teg_sizing.specs.TracedPaths.{trace_of, last_round}
use Rattle.teg_sizing.specs.Surpluses.{AreRoundsBack}
use Rattle.teg_net.proofs.Reading.{read_place}
use Rattle.teg_sizing.proofs.Values.{weight_within, sum_fits, sum_is}
use Rattle.teg_sizing.proofs.Straightening.{none_passes, best_is}
use Rattle.teg_sizing.proofs.surpluses.best_through.Goals as goal

-- what the last round tells of the start of the place
told : (net : NetLists) (r : Fraction) (p : PlaceId) (q : Place) (rounds : List (List ValueCell)) (cells : List ValueCell)
    (o : Option ℤ) (h : AreRoundsBack net r p rounds) → q ≡ place_at net p → cells ≡ last_round rounds → (get_or cells q.from.index no_cell).value ≡ o
    → value_told (round_at h.told.all (length net.transitions)) (from_of net p) ≡ o
told net r p q rounds cells o h place is e =
    ap (λ (z : List ValueCell). value_told z (from_of net p)) (sym (is ∙ h.told.last)) ∙ ap (λ (z : Place). value_told cells z.from.index) (sym place) ∙ e

pub returns-in_default-clause-none : goal.returns-in_default-clause-none
returns-in_default-clause-none c =
    let net = c.args.net.now in
    let h = c.in_ok-all.ensures.back in
    let place = read_place net c.places.result.now c.args.place c.index-places-place.result c.places.ensures.value c.requires.place c.index-places-place.is in
    none_passes net c.args.target c.args.place h.first h.told.all c.in_ok-all.ensures.rules c.requires.place h.starts h.told.are h.told.long c.requires.apart
    (told net c.args.target c.args.place c.index-places-place.result c.in_ok-all.all.items c.last_cells.result.now None h place
    (c.last_cells.ensures ∙ ap last_round c.deref.ensures.value) c.in_default.is)

pub trace-requires-clause-rounds : goal.trace-requires-clause-rounds
trace-requires-clause-rounds c = rw c.deref-2.ensures.value c.in_ok-all.ensures.back.of_net

-- the value and the weight keep their limits
record Limits (v w : ℤ) : Type 0 where
  v_low : (pos 0 -ℤ pos most_value) ≤ℤ v
  v_high : v ≤ℤ pos most_value
  w_low : (pos 0 -ℤ pos greatest_reduced_time) ≤ℤ w
  w_high : w ≤ℤ pos greatest_reduced_time

limits : (net : NetLists) (r : Fraction) (p : PlaceId) (q : Place) (rounds : List (List ValueCell)) (cells : List ValueCell) (v w : ℤ)
    (h : AreRoundsBack net r p rounds) → IsNet net → IsTarget r → p.index < length net.places → q ≡ place_at net p → cells ≡ last_round rounds
    → (get_or cells q.from.index no_cell).value ≡ Some v → w ≡ reduced_time_of_place r q → Limits v w
limits net r p q rounds cells v w h ok target l place last e is =
    let rules = ok.each_place p.index no_place l in
    let own = weight_within r (place_at net p) target rules.hold_in rules.tokens_in in
    let same : w ≡ reduced_time_of_place r (place_at net p) = is ∙ ap (reduced_time_of_place r) place in
    let long = h.told.long in
    let few = ok.few_transitions in
    let within = h.told.are.within (length net.transitions) (omega arith) (from_of net p) v (told net r p q rounds cells (Some v) h place last e) in
    let a = within.0 in
    let b = within.1 in
    let c = own.0 in
    let d = own.1 in
    let bound : length net.transitions * greatest_reduced_time ≤ 400 * greatest_reduced_time = omega arith in
    record { v_low = omega (arith, ints); v_high = omega (arith, ints); w_low = omega (arith, ints); w_high = omega (arith, ints) }

pub overflow_add-result : goal.overflow_add-result
overflow_add-result c =
    let net = c.args.net.now in
    let q = c.index-places-place.result in
    let place = read_place net c.places.result.now c.args.place q c.places.ensures.value c.requires.place c.index-places-place.is in
    let m = limits net c.args.target c.args.place q c.in_ok-all.all.items c.last_cells.result.now c.in-Some.back c.weight.result
    c.in_ok-all.ensures.back c.in_ok-all.ensures.rules c.requires.target c.requires.place place
    (c.last_cells.ensures ∙ ap last_round c.deref.ensures.value) c.in-Some.is c.weight.ensures in
    sum_fits c.in-Some.back c.weight.result m.v_low m.v_high m.w_low m.w_high

pub returns-clause-some : goal.returns-clause-some
returns-clause-some c =
    let net = c.args.net.now in
    let p = c.args.place in
    let q = c.index-places-place.result in
    let h = c.in_ok-all.ensures.back in
    let all = h.told.all in
    let place = read_place net c.places.result.now p q c.places.ensures.value c.requires.place c.index-places-place.is in
    let last = c.last_cells.ensures ∙ ap last_round c.deref.ensures.value in
    let m = limits net c.args.target p q c.in_ok-all.all.items c.last_cells.result.now c.in-Some.back c.weight.result h
    c.in_ok-all.ensures.rules c.requires.target c.requires.place place last c.in-Some.is c.weight.ensures in
    let sum = sum_is c.in-Some.back c.weight.result m.v_low m.v_high m.w_low m.w_high in
    let own : c.weight.result ≡ reduced_time_of_place c.args.target (place_at net p) = c.weight.ensures ∙ ap (reduced_time_of_place c.args.target) place in
    let path : c.in_ok-places.places.items ≡ trace_of net all (length all) (from_of net p) =
    c.in_ok-places.ensures ∙ ap (λ (z : List (List ValueCell)). trace_of net z (length z) q.from.index) c.deref-2.ensures.value
    ∙ h.told.paths q.from.index ∙ ap (λ (z : Place). trace_of net all (length all) z.from.index) place in
    rw (sum, own, c.in_ok-push.ensures.items, path)
    (best_is net c.args.target p h.first all c.in_ok-all.ensures.rules c.requires.place h.starts h.told.are h.told.long c.requires.apart c.in-Some.back c.requires.target
    (told net c.args.target p q c.in_ok-all.all.items c.last_cells.result.now (Some c.in-Some.back) h place last c.in-Some.is))
