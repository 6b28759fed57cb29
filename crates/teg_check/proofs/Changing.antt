-- What a change of one number of a net leaves of its ranks, and a change of tokens taken back.
use Rattle.std.proofs.Common.{ℕ, ◌<◌, ◌≤◌, ◌≡◌, List, arith, length, set, sym, ap, ◌∙◌}
use Rattle.std.specs.Prelude.{slice_index}
use Rattle.std.proofs.Common.{subst}
use Rattle.std.proofs.lemmas.List.Elements.{All-set}
use Rattle.std.proofs.lemmas.List.{get_or-set_same, set-set, set-get_or}
use Rattle.teg_net.specs.declared.entries.Place.{Place}
use Rattle.teg_net.specs.declared.entries.PlaceId.{PlaceId}
use Rattle.teg_net.specs.Nets.{NetLists, IsNet, lists_of}
use Rattle.teg_net.specs.Circuits.{no_place, place_at}
use Rattle.teg_net.specs.Changes.{MayHaveTokens, place_with_hold, place_with_tokens, with_hold, with_tokens}
use Rattle.teg_check.specs.Ranks.{IsRanking}

pub ranking_kept : (net : NetLists) (ranks : List ℕ) (id : PlaceId) (hold : ℕ) → id.index < length net.places → IsRanking net ranks → IsRanking (with_hold net id hold) ranks
ranking_kept net ranks id hold l h = record {
  count = h.count;
  small = h.small;
  rises = All-set (λ p. p.tokens ≡ 0 → slice_index ranks p.from.index < slice_index ranks p.to.index) net.places id.index
      (place_with_hold hold (place_at net id)) (h.rises id.index no_place l) h.rises;
}

-- a place with more tokens asks no more of the ranks
pub ranking_with_more : (net : NetLists) (ranks : List ℕ) (id : PlaceId) (tokens : ℕ) → id.index < length net.places → (place_at net id).tokens ≤ tokens → IsRanking net ranks
    → IsRanking (with_tokens net id tokens) ranks
ranking_with_more net ranks id tokens l more h = record {
  count = h.count;
  small = h.small;
  rises = All-set (λ p. p.tokens ≡ 0 → slice_index ranks p.from.index < slice_index ranks p.to.index) net.places id.index
      (place_with_tokens tokens (place_at net id)) (λ none. h.rises id.index no_place l (omega (arith, none, more))) h.rises;
}

-- the place that was changed
place_there : (net : NetLists) (id : PlaceId) (tokens : ℕ) → id.index < length net.places → place_at (with_tokens net id tokens) id ≡ place_with_tokens tokens (place_at net id)
place_there net id tokens l = get_or-set_same net.places id.index (place_with_tokens tokens (place_at net id)) no_place l

-- it may have the tokens again that it had
pub tokens_may_go_back : (net : NetLists) (id : PlaceId) (tokens : ℕ) → IsNet net → id.index < length net.places → MayHaveTokens (place_at (with_tokens net id tokens) id) (place_at net id).tokens
tokens_may_go_back net id tokens ok l =
    let own = ok.each_place id.index no_place l in
    let may : MayHaveTokens (place_with_tokens tokens (place_at net id)) (place_at net id).tokens = record { few = own.tokens_in; ready_all = own.ready_all } in
    subst (λ p. MayHaveTokens p (place_at net id).tokens) (sym (place_there net id tokens l)) may

-- and with these the net is what it was
pub tokens_go_back : (net : NetLists) (id : PlaceId) (tokens : ℕ) → id.index < length net.places → with_tokens (with_tokens net id tokens) id (place_at net id).tokens ≡ net
tokens_go_back net id tokens l =
    let own : Place = place_at net id in
    let changed : Place = place_with_tokens tokens own in
    ap (λ p. lists_of net.transitions (set (set net.places id.index changed) id.index (place_with_tokens own.tokens p)) net.inputs) (place_there net id tokens l)
    ∙ ap (λ places. lists_of net.transitions places net.inputs) (set-set net.places id.index changed own ∙ set-get_or net.places id.index no_place)
