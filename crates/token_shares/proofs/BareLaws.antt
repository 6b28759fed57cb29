-- Nets without ready dates and input lists.
use Rattle.std.proofs.Common.{ℕ, ◌+◌, ◌<◌, ◌≤◌, ◌≡◌, List, [], ◌∷◌, length, get_or, map, set, refl, sym, ap, subst, ◌∙◌, arith, inl}
use Rattle.std.specs.Prelude.{All, IsTrue, slice_index, sum}
use Rattle.std.proofs.lemmas.List.{length-map, map-set, get_or_default}
use Rattle.std.proofs.Math.ListN.{get_or-map}
use Rattle.std.proofs.lemmas.List.Elements.{All-map}
use Rattle.teg_net.specs.declared.entries.Place.{Place}
use Rattle.teg_net.specs.declared.entries.PlaceId.{PlaceId}
use Rattle.teg_net.specs.Changes.{place_with_tokens, with_tokens}
use Rattle.teg_net.specs.Circuits.{no_place, place_at, IsCircuit, BeginsLowest, time_of, tokens_of}
use Rattle.teg_net.specs.Limits.{most_place_tokens, most_places}
use Rattle.teg_net.specs.Names.{is_name}
use Rattle.teg_net.specs.Nets.{NetLists, IsNet, IsPlaceOf, lists_of}
use Rattle.teg_net.specs.Ratios.{Fraction}
use Rattle.teg_net.proofs.Changing.{HaveSameEnds, circuit_along}
use Rattle.teg_check.specs.Ranks.{IsRanking}
use Rattle.token_shares.specs.BareNets.{without_ready, bare, HasNoDates}
use Rattle.token_shares.specs.TokenShares.{AreEnough, AreFewest, HasRoom, IsAbove, KeepsTarget, NoneIsEnoughBelow, OthersKeep, with_further}
use Rattle.token_shares.proofs.Places.{sum_shared, lowest_shared}

pub bare_at : (net : NetLists) (p : PlaceId) → place_at (bare net) p ≡ without_ready (place_at net p)
bare_at net p = get_or-map without_ready net.places p.index no_place

pub bare_count : (net : NetLists) → length (bare net).places ≡ length net.places
bare_count net = length-map net.places without_ready

pub no_dates : (net : NetLists) → HasNoDates (bare net)
no_dates net = All-map (λ (p : Place). p.ready ≡ []) without_ready net.places (λ i d l. refl)

-- ---- circuits

forth : (net : NetLists) → HaveSameEnds (bare net) net
forth net = record {
  count = bare_count net;
  from = λ p. ap (λ (z : Place). z.from) (bare_at net p);
  to = λ p. ap (λ (z : Place). z.to) (bare_at net p);
}

pub circuit_of : (net : NetLists) (ps : List PlaceId) → IsCircuit (bare net) ps → IsCircuit net ps
circuit_of net ps c = circuit_along (bare net) net (forth net) ps c

pub circuit_to : (net : NetLists) (ps : List PlaceId) → IsCircuit net ps → IsCircuit (bare net) ps
circuit_to net ps c =
    let there = forth net in
    circuit_along net (bare net) (record { count = sym there.count; from = λ p. sym (there.from p); to = λ p. sym (there.to p) }) ps c

pub bare_time : (net : NetLists) (ps : List PlaceId) → time_of (bare net) ps ≡ time_of net ps
bare_time net ps = sum_shared (λ q. (place_at (bare net) q).hold) (λ q. (place_at net q).hold) ps (λ i d l. ap (λ (z : Place). z.hold) (bare_at net _))

pub bare_tokens : (net : NetLists) (ps : List PlaceId) → tokens_of (bare net) ps ≡ tokens_of net ps
bare_tokens net ps = sum_shared (λ q. (place_at (bare net) q).tokens) (λ q. (place_at net q).tokens) ps (λ i d l. ap (λ (z : Place). z.tokens) (bare_at net _))

pub bare_lowest : (net : NetLists) (ps : List PlaceId) → BeginsLowest (bare net) ps → BeginsLowest net ps
bare_lowest net ps l = lowest_shared (bare net) net ps (λ i d m. ap (λ (z : Place). z.from.index) (bare_at net _)) l

pub keeps_of : (net : NetLists) (r : Fraction) → KeepsTarget (bare net) r → KeepsTarget net r
keeps_of net r k ps c =
    let low = k ps (circuit_to net ps c) in
    rw (bare_time net ps, bare_tokens net ps) at low

pub keeps_to : (net : NetLists) (r : Fraction) → KeepsTarget net r → KeepsTarget (bare net) r
keeps_to net r k ps c =
    let low = k ps (circuit_of net ps c) in
    rw (bare_time net ps, bare_tokens net ps) low

pub above_of : (net : NetLists) (r : Fraction) (ps : List PlaceId) → IsAbove (bare net) r ps → IsAbove net r ps
above_of net r ps a = record {
  circuit = circuit_of net ps a.circuit;
  lowest = bare_lowest net ps a.lowest;
  above = rw (bare_time net ps, bare_tokens net ps) at a.above;
}

pub others_of : (net : NetLists) (r : Fraction) (places : List PlaceId) → OthersKeep (bare net) r places → OthersKeep net r places
others_of net r places k ps c off =
    let low = k ps (circuit_to net ps c) off in
    rw (bare_time net ps, bare_tokens net ps) at low

-- ---- further tokens

pub further_bare : (net : NetLists) (places : List PlaceId) (ds : List ℕ) → with_further (bare net) places ds ≡ bare (with_further net places ds)
further_bare net [] ds = refl
further_bare net (p ∷ places) [] = refl
further_bare net (p ∷ places) (d ∷ ds) =
    let new : Place = place_with_tokens ((place_at net p).tokens + d) (place_at net p) in
    let one : place_with_tokens ((place_at (bare net) p).tokens + d) (place_at (bare net) p) ≡ without_ready new =
    ap (λ (z : Place). place_with_tokens (z.tokens + d) z) (bare_at net p) in
    let step : with_tokens (bare net) p ((place_at (bare net) p).tokens + d) ≡ bare (with_tokens net p ((place_at net p).tokens + d)) =
    ap (λ (z : Place). lists_of net.transitions (set (map without_ready net.places) p.index z) []) one
    ∙ ap (λ (zs : List Place). lists_of net.transitions zs []) (sym (map-set without_ready net.places p.index new)) in
    ap (λ (n : NetLists). with_further n places ds) step ∙ further_bare (with_tokens net p ((place_at net p).tokens + d)) places ds

pub enough_of : (net : NetLists) (r : Fraction) (places : List PlaceId) (ds : List ℕ) → AreEnough (bare net) r places ds → AreEnough net r places ds
enough_of net r places ds h = record {
  count = h.count;
  kept = keeps_of (with_further net places ds) r (subst (λ (n : NetLists). KeepsTarget n r) (further_bare net places ds) h.kept);
}

pub enough_to : (net : NetLists) (r : Fraction) (places : List PlaceId) (ds : List ℕ) → AreEnough net r places ds → AreEnough (bare net) r places ds
enough_to net r places ds h = record {
  count = h.count;
  kept = subst (λ (n : NetLists). KeepsTarget n r) (sym (further_bare net places ds)) (keeps_to (with_further net places ds) r h.kept);
}

abbrev IsLow : Place → Type 0
IsLow p = p.tokens ≤ most_place_tokens

pub room_of : (net : NetLists) (places : List PlaceId) (ds : List ℕ) → HasRoom (bare net) places ds → HasRoom net places ds
room_of net places ds h =
    let there : NetLists = with_further net places ds in
    let low : All IsLow (bare there).places = subst (λ (n : NetLists). All IsLow n.places) (further_bare net places ds) h in
    λ i d l. (let own = low i (without_ready d) (subst (λ (n : ℕ). i < n) (sym (bare_count there)) l) in
    subst IsLow (get_or-map without_ready there.places i d) own)

pub room_to : (net : NetLists) (places : List PlaceId) (ds : List ℕ) → HasRoom net places ds → HasRoom (bare net) places ds
room_to net places ds h =
    let there : NetLists = with_further net places ds in
    subst (λ (n : NetLists). All IsLow n.places) (sym (further_bare net places ds)) (All-map IsLow without_ready there.places h)

pub below_of : (net : NetLists) (r : Fraction) (places : List PlaceId) (n : ℕ) → NoneIsEnoughBelow (bare net) r places n → NoneIsEnoughBelow net r places n
below_of net r places n low ds enough room = low ds (enough_to net r places ds enough) (room_to net places ds room)

pub fewest_of : (net : NetLists) (r : Fraction) (places : List PlaceId) (most : ℕ) (ds : List ℕ) → AreFewest (bare net) r places most ds → AreFewest net r places most ds
fewest_of net r places most ds h = record {
  enough = enough_of net r places ds h.enough;
  room = room_of net places ds h.room;
  within = h.within;
  least = below_of net r places (sum ds) h.least;
}

-- ---- rules and ranks

pub bare_rules : (net : NetLists) → IsNet net → IsNet (bare net)
bare_rules net ok = record {
  some_transition = ok.some_transition;
  few_transitions = ok.few_transitions;
  few_places = subst (λ (n : ℕ). n ≤ most_places) (sym (bare_count net)) ok.few_places;
  transition_names = ok.transition_names;
  place_names = All-map (λ (p : Place). IsTrue (is_name p.name)) without_ready net.places ok.place_names;
  distinct_transitions = ok.distinct_transitions;
  distinct_places = λ i j d before within same.
      ok.distinct_places i j no_place before (subst (λ (n : ℕ). j < n) (bare_count net) within)
      (named i d (omega (arith, bare_count net)) ∙ (same ∙ sym (named j d within)));
  each_place = All-map (IsPlaceOf (bare net)) without_ready net.places (λ i d l. fits (get_or net.places i d) (ok.each_place i d l));
  one_list = λ i j d before within. absurd (omega arith);
  each_input = λ i d l. absurd (omega arith);
} where
  named : (i : ℕ) (d : Place) → i < length (map without_ready net.places) → (get_or net.places i no_place).name ≡ (get_or (map without_ready net.places) i d).name
  named i d l =
      ap (λ (z : Place). z.name) (sym (get_or-map without_ready net.places i no_place)) ∙ ap (λ (z : Place). z.name) (get_or_default (map without_ready net.places) i no_place d l)

  fits : (p : Place) → IsPlaceOf net p → IsPlaceOf (bare net) (without_ready p)
  fits p h = record {
    from_in = h.from_in;
    to_in = h.to_in;
    enters_no_input = h.enters_no_input;
    hold_in = h.hold_in;
    tokens_in = h.tokens_in;
    ready_all = inl refl;
    ready_in = λ i d l. absurd (omega arith);
  }

pub bare_ranking : (net : NetLists) (ranks : List ℕ) → IsRanking net ranks → IsRanking (bare net) ranks
bare_ranking net ranks h = record {
  count = h.count;
  small = h.small;
  rises = All-map (λ (p : Place). p.tokens ≡ 0 → slice_index ranks p.from.index < slice_index ranks p.to.index) without_ready net.places h.rises;
}
