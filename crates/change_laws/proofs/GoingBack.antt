-- A place set to another and back to its own.
use Rattle.std.proofs.Common.{◌<◌, ◌≡◌, length, sym, subst, ap, ◌∙◌}
use Rattle.std.proofs.lemmas.List.{get_or-set_same, set-set, set-get_or}
use Rattle.teg_net.specs.declared.entries.Place.{Place}
use Rattle.teg_net.specs.declared.entries.PlaceId.{PlaceId}
use Rattle.teg_net.specs.Nets.{NetLists, lists_of}
use Rattle.teg_net.specs.Circuits.{no_place, place_at}
use Rattle.teg_net.specs.Changes.{MayHaveTokens, place_with_hold, place_with_tokens, with_hold, with_place, with_tokens}
use Rattle.change_laws.specs.ChangesBack.{HoldsGoBack, TokensGoBack}

-- the place that was changed
there : (net : NetLists) (id : PlaceId) (p : Place) → id.index < length net.places → place_at (with_place net id p) id ≡ p
there net id p l = get_or-set_same net.places id.index p no_place l

-- the net with the place at this number changed, and then its own there again
own_again : (net : NetLists) (id : PlaceId) (p : Place) → with_place (with_place net id p) id (place_at net id) ≡ net
own_again net id p =
    ap (λ places. lists_of net.transitions places net.inputs) (set-set net.places id.index p (place_at net id) ∙ set-get_or net.places id.index no_place)

pub hold_back : HoldsGoBack
hold_back net id hold l =
    let own : Place = place_at net id in
    let changed : Place = place_with_hold hold own in
    record {
      same = ap (λ p. with_place (with_hold net id hold) id (place_with_hold own.hold p)) (there net id changed l) ∙ own_again net id changed;
      keeps = λ ok. (ok.each_place id.index no_place l).hold_in;
    }

pub tokens_back : TokensGoBack
tokens_back net id tokens l =
    let own : Place = place_at net id in
    let changed : Place = place_with_tokens tokens own in
    record {
      same = ap (λ p. with_place (with_tokens net id tokens) id (place_with_tokens own.tokens p)) (there net id changed l) ∙ own_again net id changed;
      keeps = λ ok.
          let rules = ok.each_place id.index no_place l in
          let may : MayHaveTokens changed own.tokens = record { few = rules.tokens_in; ready_all = rules.ready_all } in
          subst (λ p. MayHaveTokens p own.tokens) (sym (there net id changed l)) may;
    }
