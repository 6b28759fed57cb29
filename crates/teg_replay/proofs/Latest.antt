-- The dates by which the tokens of a firing are there, as the first i of some places into its transition have them.
use Rattle.std.proofs.Common.{ℕ, ◌+◌, ◌<◌, ◌≤◌, ◌≡◌, List, Option, Some, length, get_or, max, sym, subst, arith, ⊎_elim}
use Rattle.std.specs.Prelude.{All}
use Rattle.std.proofs.lemmas.Bool.{cases_lt}
use Rattle.std.proofs.lemmas.List.{get_or_default}
use Rattle.teg_net.specs.declared.entries.PlaceId.{PlaceId}
use Rattle.teg_net.specs.Nets.{NetLists}
use Rattle.teg_net.specs.Circuits.{no_place, place_at}
use Rattle.run_laws.specs.declared.fired.Fired.{Fired}
use Rattle.run_laws.specs.Runs.{token_date, IsThereBy, HasTokensBy}
use Rattle.run_laws.proofs.Dates.{later_there}
use Rattle.teg_replay.specs.Waits.{IsLatestOf, IsLateAt}

abbrev pub no_id : PlaceId
no_id = record { index = 0 }

pub record LatestUpTo (net : NetLists) (run : List Fired) (f : Fired) (k : ℕ) (ids : List PlaceId) (i latest : ℕ) : Type 0 where
  pub enough : (j : ℕ) (d : PlaceId) → j < i → IsThereBy latest (token_date run (place_at net (get_or ids j d)) k)
  pub first : (other : ℕ) → HasTokensBy net run f.transition.index k other → latest ≤ other
  pub by : latest ≤ f.date

-- what all places into the transition have, place i of the list has
at_id : (net : NetLists) (run : List Fired) (t k date : ℕ) (ids : List PlaceId) (i : ℕ) (d : PlaceId) → All (λ p. p.index < length net.places) ids → All (λ p. (place_at net p).to.index ≡ t) ids
    → i < length ids → HasTokensBy net run t k date → IsThereBy date (token_date run (place_at net (get_or ids i d)) k)
at_id net run t k date ids i d known right l h = h (get_or ids i d).index no_place (known i d l) (right i d l)

pub latest_more : (net : NetLists) (run : List Fired) (f : Fired) (k : ℕ) (ids : List PlaceId) (i latest date : ℕ) (id : PlaceId)
    → All (λ p. p.index < length net.places) ids → All (λ p. (place_at net p).to.index ≡ f.transition.index) ids → LatestUpTo net run f k ids i latest → i < length ids
    → ((d : PlaceId) → get_or ids i d ≡ id) → Some date ≡ token_date run (place_at net id) k → date ≤ f.date → LatestUpTo net run f k ids (i + 1) (max latest date)
latest_more net run f k ids i latest date id known right h l is there by = record {
  enough = λ j d m.
      ⊎_elim
      (λ (q : j < i). later_there latest (max latest date) _ (omega arith) (h.enough j d q))
      (λ (q : i ≤ j).
      let one : j ≡ i = omega arith in
      let same : IsThereBy (max latest date) (Some date) = omega arith in
      rw (one, is d) (subst (IsThereBy (max latest date)) there same))
      (cases_lt j i);
  first = λ other all.
      let low = h.first other all in
      let here : IsThereBy other (Some date) = subst (IsThereBy other) (sym there) (rw (is no_id) at (at_id net run f.transition.index k other ids i no_id known right l all)) in
      omega (arith, low, here);
  by = omega (arith, h.by, by);
}

pub latest_of : (net : NetLists) (run : List Fired) (f : Fired) (k : ℕ) (ids : List PlaceId) (i latest : ℕ) → LatestUpTo net run f k ids i latest → length ids ≤ i → IsLatestOf net run f k ids latest
latest_of net run f k ids i latest h end = record { enough = λ j d l. h.enough j d (omega (arith, l, end)); first = h.first; by = h.by }

-- the place that stands at i is the first whose token is not there
pub late_at : (net : NetLists) (run : List Fired) (f : Fired) (k : ℕ) (ids : List PlaceId) (i latest : ℕ) (there : Option ℕ) → LatestUpTo net run f k ids i latest → i < length ids
    → there ≡ token_date run (place_at net (get_or ids i no_id)) k → (IsThereBy f.date there → ⊥) → IsLateAt net run f k ids (get_or ids i no_id) there
late_at net run f k ids i latest there h l date late = record {
  at = i;
  within = l;
  is = λ d. get_or_default ids i d no_id l;
  date = date;
  late = late;
  before = λ j d m. later_there latest f.date _ h.by (h.enough j d m);
}

pub latest_by : (net : NetLists) (run : List Fired) (t k a b : ℕ) → a ≤ b → HasTokensBy net run t k a → HasTokensBy net run t k b
latest_by net run t k a b l h q d m e = later_there a b _ l (h q d m e)
