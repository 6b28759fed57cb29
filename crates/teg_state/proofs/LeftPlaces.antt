-- The places that are left, one after the other.
use Rattle.std.proofs.Common.{ℕ, ◌+◌, ◌<◌, ◌≡◌, List, [], ◌∷◌, ◌++◌, Some, max, length, take, map, get_or, sym, ap, subst, ◌∙◌, arith}
use Rattle.std.specs.Prelude.{All}
use Rattle.std.specs.List.{range_with_len}
use Rattle.std.proofs.lemmas.List.{map_more, take_all}
use Rattle.std.proofs.lemmas.List.Elements.{All-more}
use Rattle.std.proofs.lemmas.List.FromFn.{map-range_with_len_more}
use Rattle.std.proofs.lemmas.Option.{slice_get-get_or}
use Rattle.teg_net.specs.declared.entries.Place.{Place}
use Rattle.teg_net.specs.declared.entries.PlaceId.{PlaceId}
use Rattle.teg_net.specs.Circuits.{no_place, place_at}
use Rattle.teg_net.specs.NetFaults.{IsFirstBreach}
use Rattle.teg_net.specs.Nets.{NetLists}
use Rattle.run_laws.specs.declared.fired.Fired.{Fired}
use Rattle.state_laws.specs.Rests.{ArePaid}
use Rattle.state_laws.specs.NetsLeft.{count_in, not_before, place_after}
use Rattle.teg_state.specs.WhyNotLeft.{HasTokensLeft, token_date_by}

-- the first places are left so, each with its tokens
pub record AreLeft (net : NetLists) (run : List Fired) (now : ℕ) (most : ℕ) (places : List Place) : Type 0 where
  pub same : places ≡ map (place_after run now) (take most net.places)
  pub left : All (HasTokensLeft run) (take most net.places)

-- all of them
pub all_left : (net : NetLists) (run : List Fired) (now : ℕ) (places : List Place) → AreLeft net run now (length net.places) places → All (HasTokensLeft run) net.places
all_left net run now places h = rw (take_all (length net.places) net.places (omega arith)) at h.left

pub all_paid : (net : NetLists) (run : List Fired) (now : ℕ) (places : List Place) → AreLeft net run now (length net.places) places → ArePaid (count_in run) net.places
all_paid net run now places h = λ k d l. let here = all_left net run now places h k d l in here.paid

-- one more place
pub left_more : (net : NetLists) (run : List Fired) (now i : ℕ) (id : PlaceId) (places : List Place) (p : Place) → id.index ≡ i → i < length net.places → AreLeft net run now i places
    → p ≡ place_after run now (place_at net id) → HasTokensLeft run (place_at net id) → AreLeft net run now (i + 1) (places ++ p ∷ [])
left_more net run now i id places p is in' h e here =
    let made : p ≡ place_after run now (get_or net.places i no_place) = e ∙ ap (λ j. place_after run now (get_or net.places j no_place)) is in
    record {
      same = ap (λ xs. xs ++ p ∷ []) h.same ∙ (ap (λ q. map (place_after run now) (take i net.places) ++ q ∷ []) made ∙ sym (map_more (place_after run now) net.places i no_place in'));
      left = All-more (HasTokensLeft run) net.places i no_place in' h.left (subst (λ j. HasTokensLeft run (get_or net.places j no_place)) is here);
    }

-- the place breaks this, and those before it have their tokens left
pub first_at : (Breaks : Place → Type 0) (net : NetLists) (run : List Fired) (id : PlaceId) → id.index < length net.places → All (HasTokensLeft run) (take id.index net.places)
    → Breaks (place_at net id) → IsFirstBreach (HasTokensLeft run) Breaks net.places id.index
first_at Breaks net run id in' before breaks = record {
  here = rw (slice_get-get_or net.places id.index no_place in') breaks;
  before = before;
}

-- the ready dates of the first tokens that are left
abbrev pub ready_first : List ℕ → Place → ℕ → ℕ → ℕ → List ℕ
ready_first from p taken now tokens = map (λ k. not_before now (token_date_by from p (taken + k))) (range_with_len 1 tokens)

pub ready_more : (from : List ℕ) (p : Place) (taken now index date : ℕ) (ready : List ℕ) → ready ≡ ready_first from p taken now index
    → token_date_by from p (taken + index + 1) ≡ Some date → ready ++ max now date ∷ [] ≡ ready_first from p taken now (index + 1)
ready_more from p taken now index date ready h e =
    let f : ℕ → ℕ = λ k. not_before now (token_date_by from p (taken + k)) in
    let next : taken + (index + 1) ≡ taken + index + 1 = omega arith in
    let here : f (index + 1) ≡ max now date = ap (λ k. not_before now (token_date_by from p k)) next ∙ ap (not_before now) e in
    let one : 1 + index ≡ index + 1 = omega arith in
    ap (λ xs. xs ++ max now date ∷ []) h ∙ (ap (λ n. map f (range_with_len 1 index) ++ n ∷ []) (sym here) ∙ sym (map-range_with_len_more f 1 index (index + 1) one))
