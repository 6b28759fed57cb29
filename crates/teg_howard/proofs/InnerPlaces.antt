-- The list of the places of a part: how it is gathered, and that no place of the part lies between two that follow each other.
use Rattle.std.proofs.Common.{ℕ, ◌+◌, ◌<◌, ◌≤◌, ◌≡◌, ◌≢◌, List, [], ◌∷◌, ◌++◌, length, get_or, ap, subst, ◌∙◌, arith, ⊎_elim}
use Rattle.std.specs.Prelude.{All, AllPairs, Contains}
use Rattle.std.proofs.lemmas.Bool.{cases_eq, cases_lt}
use Rattle.std.proofs.lemmas.List.{get_or_append_left, get_or_push, get_or_past, get_or_default, length_push}
use Rattle.std.proofs.lemmas.List.Elements.{All-push, All-weaker, Contains-push, Contains-append_left}
use Rattle.teg_net.specs.declared.entries.PlaceId.{PlaceId}
use Rattle.teg_net.specs.Nets.{NetLists}
use Rattle.teg_net.specs.Parts.{IsPlaceOfPart}
use Rattle.teg_howard.specs.InnerPlaces.{ListsPlaces}
use Rattle.teg_net.proofs.Reading.{same_id}

-- the list has the places of the part below i
pub record PlacesTo (net : NetLists) (parts : List ℕ) (part : ℕ) (ids : List PlaceId) (i : ℕ) : Type 0 where
  pub known : All (λ p. p.index < i) ids
  pub ordered : AllPairs (λ p q. p.index < q.index) ids
  pub only : All (IsPlaceOfPart net parts part) ids
  pub all : (p : PlaceId) → p.index < i → IsPlaceOfPart net parts part p → Contains ids p

module _ (net : NetLists) (parts : List ℕ) (part : ℕ) where
  pub places_none : PlacesTo net parts part [] 0
  places_none = record { known = λ k d l. absurd (omega arith); ordered = λ a b d l m. absurd (omega arith); only = λ k d l. absurd (omega arith); all = λ p l h. absurd (omega arith) }

  pub places_more : (ids : List PlaceId) (p : PlaceId) → PlacesTo net parts part ids p.index → IsPlaceOfPart net parts part p → PlacesTo net parts part (ids ++ p ∷ []) (p.index + 1)
  places_more ids p h inside = record {
    known = All-push (λ x. x.index < p.index + 1) ids p (All-weaker (λ x. x.index < p.index) (λ x. x.index < p.index + 1) (λ x l. omega arith) ids h.known) (omega arith);
    ordered = λ a b d l m.
        let long = length_push ids p in
        let left : get_or (ids ++ p ∷ []) a d ≡ get_or ids a d = get_or_append_left ids (p ∷ []) d a (omega arith) in
        ⊎_elim
        (λ (q : b < length ids). rw (left, get_or_append_left ids (p ∷ []) d b q) (h.ordered a b d l q))
        (λ (q : length ids ≤ b). let last : length ids ≡ b = omega arith in rw (left, get_or_push ids p d b last) (h.known a d (omega arith)))
        (cases_lt b (length ids));
    only = All-push (IsPlaceOfPart net parts part) ids p h.only inside;
    all = λ q l e.
        ⊎_elim
        (λ (s : q.index < p.index). Contains-append_left ids (p ∷ []) q (h.all q s e))
        (λ (s : p.index ≤ q.index). subst (Contains (ids ++ p ∷ [])) (same_id p q (omega arith)) (Contains-push ids p))
        (cases_lt q.index p.index);
  }

  pub places_skip : (ids : List PlaceId) (p : PlaceId) → PlacesTo net parts part ids p.index → (IsPlaceOfPart net parts part p → ⊥) → PlacesTo net parts part ids (p.index + 1)
  places_skip ids p h out = record {
    known = All-weaker (λ x. x.index < p.index) (λ x. x.index < p.index + 1) (λ x l. omega arith) ids h.known;
    ordered = h.ordered;
    only = h.only;
    all = λ q l e.
        ⊎_elim
        (λ (s : q.index < p.index). h.all q s e)
        (λ (s : p.index ≤ q.index). absurd (out (subst (IsPlaceOfPart net parts part) (same_id q p (omega arith)) e)))
        (cases_lt q.index p.index);
  }

  pub places_all : (ids : List PlaceId) (n : ℕ) → length net.places ≤ n → PlacesTo net parts part ids n → ListsPlaces net parts part ids
  places_all ids n long h = record { ordered = h.ordered; only = h.only; all = λ p e. let l = e.in_range in h.all p (omega arith) e }

  -- ---- the walk along the list
  -- the number of the place at k, and past the list that of places
  abbrev pub number_at : List PlaceId → ℕ → ℕ
  number_at ids k = (get_or ids k (record { index = length net.places })).index

  module _ (ids : List PlaceId) (h : ListsPlaces net parts part ids) where
    -- a place of the part that stands no lower than the place at k is not below it
    not_below : (k j : ℕ) → k ≤ j → j < length ids → number_at ids k ≤ number_at ids j
    not_below k j le l =
        ⊎_elim
        (λ (e : k ≡ j). let same : number_at ids k ≡ number_at ids j = ap (number_at ids) e in omega arith)
        (λ (n : k ≢ j). let less = h.ordered k j (record { index = length net.places }) (omega arith) l in omega arith)
        (cases_eq k j)

    at : (q : PlaceId) → IsPlaceOfPart net parts part q → (j : ℕ) × (j < length ids) × (number_at ids j ≡ q.index)
    at q e =
        let c = h.all q e in
        (c.0, c.1, ap (λ (x : PlaceId). let r : ℕ = x.index in r) (get_or_default ids c.0 (record { index = length net.places }) q c.1 ∙ c.2))

    pub none_first : (q : PlaceId) → IsPlaceOfPart net parts part q → q.index < number_at ids 0 → ⊥
    none_first q e l = let c = at q e in let low = not_below 0 c.0 (omega arith) c.1 in let same = c.2 in omega arith

    pub none_between : (k : ℕ) (p q : PlaceId) → k < length ids → number_at ids k ≡ p.index → IsPlaceOfPart net parts part q → q.index < number_at ids (k + 1) → q.index < p.index + 1
    none_between k p q l here e m =
        let c = at q e in
        let same = c.2 in
        ⊎_elim
        (λ (s : c.0 < k + 1). let low = not_below c.0 k (omega arith) l in omega arith)
        (λ (s : k + 1 ≤ c.0). let low = not_below (k + 1) c.0 s c.1 in absurd (omega arith))
        (cases_lt c.0 (k + 1))

    pub rises_at : (k : ℕ) (p : PlaceId) → k < length ids → number_at ids k ≡ p.index → p.index + 1 ≤ number_at ids (k + 1)
    rises_at k p l here =
        ⊎_elim
        (λ (s : k + 1 < length ids). let less = h.ordered k (k + 1) (record { index = length net.places }) (omega arith) s in omega arith)
        (λ (s : length ids ≤ k + 1).
        let past : number_at ids (k + 1) ≡ length net.places = ap (λ (x : PlaceId). let r : ℕ = x.index in r) (get_or_past ids (k + 1) (record { index = length net.places }) s) in
        let in' = (h.only k (record { index = length net.places }) l).in_range in
        omega arith)
        (cases_lt (k + 1) (length ids))

    pub past_all : (k : ℕ) → length ids ≤ k → length net.places ≤ number_at ids k
    past_all k l =
        let past : number_at ids k ≡ length net.places = ap (λ (x : PlaceId). let r : ℕ = x.index in r) (get_or_past ids k (record { index = length net.places }) l) in
        omega arith
