-- Further tokens that are laid into a net one place after another.
use Rattle.std.proofs.Common.{ℕ, ◌+◌, ◌<◌, ◌≡◌, List, ◌∷◌, length, get_or, drop, drop-cons, refl, sym, ap, subst, ◌∙◌, arith, add-one}
use Rattle.std.specs.Prelude.{All}
use Rattle.std.proofs.lemmas.List.{length-set}
use Rattle.std.proofs.lemmas.List.Elements.{All-drop}
use Rattle.teg_net.specs.declared.entries.Place.{Place}
use Rattle.teg_net.specs.declared.entries.PlaceId.{PlaceId}
use Rattle.teg_net.specs.Changes.{place_with_tokens, with_tokens}
use Rattle.teg_net.specs.Circuits.{no_place, place_at}
use Rattle.teg_net.specs.Nets.{NetLists}
use Rattle.token_shares.specs.BareNets.{IsTrialUpTo}
use Rattle.token_shares.specs.TokenShares.{HasRoom, with_further}
use Rattle.token_shares.proofs.Places.{new_at}
use Rattle.token_shares.proofs.Further.{after_one, count_further, dates_after, grows}

abbrev none : PlaceId
none = record { index = 0 }

module _ (plain : NetLists) (places : List PlaceId) (ds : List ℕ) (range : All (λ p. p.index < length plain.places) places) (count : length ds ≡ length places) where
  module _ (i : ℕ) (trial : NetLists) (l : i < length places) (h : IsTrialUpTo plain places ds i trial) where
    abbrev place : PlaceId
    place = get_or places i none

    abbrev number : ℕ
    number = get_or ds i 0

    step : with_further trial (drop i places) (drop i ds) ≡ with_further (after_one trial place number) (drop (i + 1) places) (drop (i + 1) ds)
    step =
        let one : drop i places ≡ place ∷ drop (i + 1) places = rw add-one (drop-cons places i none l) in
        let two : drop i ds ≡ number ∷ drop (i + 1) ds = rw add-one (drop-cons ds i 0 (omega arith)) in
        rw (one, two) refl

    in_range : place.index < length trial.places
    in_range = subst (λ (n : ℕ). place.index < n) (sym h.count) (range i none l)

    same_count : length (after_one trial place number).places ≡ length trial.places
    same_count = length-set trial.places place.index (place_with_tokens ((place_at trial place).tokens + number) (place_at trial place))

    pub more : (after : NetLists) → after ≡ with_tokens trial place ((place_at trial place).tokens + number) → IsTrialUpTo plain places ds (i + 1) after
    more after e = subst (IsTrialUpTo plain places ds (i + 1)) (sym e) (record {
      count = same_count ∙ h.count;
      no_dates = dates_after trial place number in_range h.no_dates;
      rest = sym step ∙ h.rest;
    })

    -- where the next place would have too many, there is no room
    pub no_room : 1000 < (place_at trial place).tokens + number → HasRoom plain places ds → ⊥
    no_room over room =
        let there : NetLists = with_further plain places ds in
        let next : NetLists = after_one trial place number in
        let left : All (λ p. p.index < length next.places) (drop (i + 1) places) =
        subst (λ (n : ℕ). All (λ p. p.index < n) (drop (i + 1) places)) (sym (same_count ∙ h.count)) (All-drop (λ p. p.index < length plain.places) (i + 1) places range) in
        let up = grows next (drop (i + 1) places) (drop (i + 1) ds) place left in
        let here : (place_at next place).tokens ≡ (place_at trial place).tokens + number =
        ap (λ (z : Place). z.tokens) (new_at trial place place (place_with_tokens ((place_at trial place).tokens + number) (place_at trial place)) in_range refl) in
        let same : (place_at (with_further next (drop (i + 1) places) (drop (i + 1) ds)) place).tokens ≡ (place_at there place).tokens =
        ap (λ (n : NetLists). (place_at n place).tokens) (sym step ∙ h.rest) in
        let low = room place.index no_place (subst (λ (n : ℕ). place.index < n) (sym (count_further plain places ds)) (range i none l)) in
        absurd (omega arith)
