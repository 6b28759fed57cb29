-- What other ready dates of a place leave of a net.
use Rattle.std.proofs.Common.{ℕ, ◌<◌, ◌≤◌, ◌≡◌, List, length, get_or, refl, sym, ap, subst, ◌∙◌, ⊎_elim}
use Rattle.std.specs.Prelude.{slice_index, sum_by}
use Rattle.std.proofs.lemmas.Bool.{cases_lt, cases_eq}
use Rattle.std.proofs.lemmas.List.{get_or-set_same, get_or-set_other, get_or_default, length-set, set_past, set-set, set-get_or}
use Rattle.std.proofs.lemmas.List.Elements.{All-set}
use Rattle.std.proofs.lemmas.Grind.{get_or-set_at}
use Rattle.teg_net.specs.declared.entries.Place.{Place}
use Rattle.teg_net.specs.declared.entries.PlaceId.{PlaceId}
use Rattle.teg_net.specs.Changes.{with_place}
use Rattle.teg_net.specs.Circuits.{no_place, place_at, IsLive}
use Rattle.teg_net.specs.Nets.{NetLists, lists_of, IsPlaceOf, IsNet}
use Rattle.teg_net.proofs.Changing.{HaveSameEnds, circuit_along, rules_kept}
use Rattle.ready_changes.specs.ReadyChanges.{place_with_ready, with_ready, MayHaveReady, ReadyDatesKeepRankings, ReadyDatesKeepCircuits, ReadyDatesGoBack}

-- what other ready dates leave of each place, they leave of the places of the net
kept :
    {X : Type 0} (part : Place → X) → ((ready : List ℕ) (p : Place) → part (place_with_ready ready p) ≡ part p)
    → (net : NetLists) (id : PlaceId) (ready : List ℕ) (p : PlaceId) → part (place_at (with_ready net id ready) p) ≡ part (place_at net p)
kept part same net id ready p =
    let changed : Place = place_with_ready ready (place_at net id) in
    ⊎_elim
    (λ (e : p.index ≡ id.index).
    ⊎_elim
    (λ (l : id.index < length net.places).
    ap part (get_or-set_at net.places id.index p.index changed no_place e l) ∙ (same ready (place_at net id) ∙ ap (λ k. part (get_or net.places k no_place)) (sym e)))
    (λ (l : length net.places ≤ id.index). ap (λ places. part (get_or places p.index no_place)) (set_past net.places id.index changed l))
    (cases_lt id.index (length net.places)))
    (λ other. ap part (get_or-set_other net.places id.index p.index changed no_place other))
    (cases_eq p.index id.index)

forth : (net : NetLists) (id : PlaceId) (ready : List ℕ) → HaveSameEnds (with_ready net id ready) net
forth net id ready = record {
  count = length-set net.places id.index (place_with_ready ready (place_at net id));
  from = kept (λ p. p.from) (λ r p. refl) net id ready;
  to = kept (λ p. p.to) (λ r p. refl) net id ready;
}

back : (net : NetLists) (id : PlaceId) (ready : List ℕ) → HaveSameEnds net (with_ready net id ready)
back net id ready =
    let there = forth net id ready in
    record { count = sym there.count; from = λ p. sym (there.from p); to = λ p. sym (there.to p) }

pub keep_circuits : ReadyDatesKeepCircuits
keep_circuits net id ready ps = (
  (circuit_along (with_ready net id ready) net (forth net id ready) ps, circuit_along net (with_ready net id ready) (back net id ready) ps),
  ap (λ (f : PlaceId → ℕ). sum_by f ps) (λ i. λ p. kept (λ q. q.hold) (λ r q. refl) net id ready p i),
  ap (λ (f : PlaceId → ℕ). sum_by f ps) (λ i. λ p. kept (λ q. q.tokens) (λ r q. refl) net id ready p i),
)

-- a live net stays live
pub keeps_live : (net : NetLists) (id : PlaceId) (ready : List ℕ) → IsLive net → IsLive (with_ready net id ready)
keeps_live net id ready live ps circuit none =
    let same = keep_circuits net id ready ps in
    live ps (same.0.0 circuit) (sym same.2 ∙ none)

pub keep_rankings : ReadyDatesKeepRankings
keep_rankings net ranks id ready l h = record {
  count = h.count;
  small = h.small;
  rises = All-set (λ p. p.tokens ≡ 0 → slice_index ranks p.from.index < slice_index ranks p.to.index) net.places id.index
      (place_with_ready ready (place_at net id)) (h.rises id.index no_place l) h.rises;
}

-- the place that was changed
there : (net : NetLists) (id : PlaceId) (ready : List ℕ) → id.index < length net.places → place_at (with_ready net id ready) id ≡ place_with_ready ready (place_at net id)
there net id ready l = get_or-set_same net.places id.index (place_with_ready ready (place_at net id)) no_place l

pub go_back : ReadyDatesGoBack
go_back net id ready l =
    let own : Place = place_at net id in
    let changed : Place = place_with_ready ready own in
    record {
      same = ap (λ p. with_place (with_ready net id ready) id (place_with_ready own.ready p)) (there net id ready l)
          ∙ ap (λ places. lists_of net.transitions places net.inputs) (set-set net.places id.index changed own ∙ set-get_or net.places id.index no_place);
      keeps = λ ok.
          let rules = ok.each_place id.index no_place l in
          let may : MayHaveReady changed own.ready = record { all = rules.ready_all; in_time = rules.ready_in } in
          subst (λ p. MayHaveReady p own.ready) (sym (there net id ready l)) may;
    }

-- a net with ready dates that a place may have keeps the rules
pub keeps_rules : (net : NetLists) (id : PlaceId) (ready : List ℕ) → IsNet net → id.index < length net.places → MayHaveReady (place_at net id) ready → IsNet (with_ready net id ready)
keeps_rules net id ready ok l may =
    rules_kept net.transitions net.places net.inputs id.index (place_at net id) (place_with_ready ready (place_at net id)) ok l (get_or_default net.places id.index no_place (place_at net id) l) refl
    (λ (h : IsPlaceOf net (place_at net id)). record {
      from_in = h.from_in;
      to_in = h.to_in;
      enters_no_input = h.enters_no_input;
      hold_in = h.hold_in;
      tokens_in = h.tokens_in;
      ready_all = may.all;
      ready_in = may.in_time;
    })
