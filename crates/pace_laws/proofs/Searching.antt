-- Of lists of places that pass a test, up to a length, one that is greatest in an order.
use Rattle.std.proofs.Common.{ℕ, zero, suc, ◌<◌, ◌≤◌, ◌≡◌, ◌⊎◌, inl, inr, List, [], ◌∷◌, ◌++◌, length, refl, sym, ap, subst, ◌∙◌, arith, append_assoc, ⊎_elim}
use Rattle.std.specs.Prelude.{All}
use Rattle.std.proofs.lemmas.List.{append-nil}
use Rattle.std.proofs.lemmas.List.Elements.{All-tail}
use Rattle.teg_net.specs.declared.entries.PlaceId.{PlaceId}
use Rattle.pace_laws.proofs.Longest.{FirstBelow, BeginsWith, first_or}

module _ (bound : ℕ) (Passes : List PlaceId → Type 0) (passes : (ps : List PlaceId) → Passes ps ⊎ (Passes ps → ⊥)) (Le : List PlaceId → List PlaceId → Type 0)
    (same : (x : List PlaceId) → Le x x) (total : (x y : List PlaceId) → Le x y ⊎ Le y x) (join : (x y z : List PlaceId) → Passes y → Le x y → Le y z → Le x z) where
  -- none of the set passes
  abbrev pub NonePasses : (List PlaceId → Type 0) → Type 0
  NonePasses Among = (ps : List PlaceId) → Among ps → Passes ps → ⊥

  -- none of the set that passes is greater
  pub record IsGreatestOf (Among : List PlaceId → Type 0) : Type 0 where
    pub best : List PlaceId
    pub is : Passes best
    pub greatest : (ps : List PlaceId) → Among ps → Passes ps → Le ps best

  abbrev pub Found : (List PlaceId → Type 0) → Type 0
  Found Among = NonePasses Among ⊎ IsGreatestOf Among

  narrower : (Among Fewer : List PlaceId → Type 0) → ((ps : List PlaceId) → Fewer ps → Among ps) → Found Among → Found Fewer
  narrower Among Fewer to f = ⊎_elim
      (λ (no : NonePasses Among). inl (λ ps m p. no ps (to ps m) p))
      (λ (o : IsGreatestOf Among). inr (record { best = o.best; is = o.is; greatest = λ ps m p. o.greatest ps (to ps m) p }))
      f

  one : (x : List PlaceId) → Found (λ ps. ps ≡ x)
  one x = ⊎_elim
      (λ (p : Passes x). inr (record { best = x; is = p; greatest = λ ps e q. subst (λ (z : List PlaceId). Le z x) (sym e) (same x) }))
      (λ (n : Passes x → ⊥). inl (λ ps e q. n (subst Passes e q)))
      (passes x)

  both : (A B : List PlaceId → Type 0) → Found A → Found B → Found (λ ps. A ps ⊎ B ps)
  both A B f g = ⊎_elim
      (λ (no : NonePasses A).
      ⊎_elim
      (λ (none : NonePasses B). inl (λ ps m p. ⊎_elim (λ (x : A ps). no ps x p) (λ (x : B ps). none ps x p) m))
      (λ (o : IsGreatestOf B). inr (record { best = o.best; is = o.is; greatest = λ ps m p. ⊎_elim (λ (x : A ps). absurd (no ps x p)) (λ (x : B ps). o.greatest ps x p) m }))
      g)
      (λ (u : IsGreatestOf A).
      ⊎_elim
      (λ (none : NonePasses B). inr (record { best = u.best; is = u.is; greatest = λ ps m p. ⊎_elim (λ (x : A ps). u.greatest ps x p) (λ (x : B ps). absurd (none ps x p)) m }))
      (λ (o : IsGreatestOf B).
      ⊎_elim
      (λ (l : Le u.best o.best). inr (record {
        best = o.best;
        is = o.is;
        greatest = λ ps m p. ⊎_elim (λ (x : A ps). join ps u.best o.best u.is (u.greatest ps x p) l) (λ (x : B ps). o.greatest ps x p) m;
      }))
      (λ (l : Le o.best u.best). inr (record {
        best = u.best;
        is = u.is;
        greatest = λ ps m p. ⊎_elim (λ (x : A ps). u.greatest ps x p) (λ (x : B ps). join ps o.best u.best o.is (o.greatest ps x p) l) m;
      }))
      (total u.best o.best))
      g)
      f

  -- the list goes on with at most k numbers below the bound, the first of them below m
  pub record GoesOn (before : List PlaceId) (k m : ℕ) (ps : List PlaceId) : Type 0 where
    pub more : List PlaceId
    pub is : ps ≡ before ++ more
    pub low : All (λ p. p.index < bound) more
    pub few : length more ≤ k
    pub first : FirstBelow m more

  by_first : (k : ℕ) (before : List PlaceId) → ((p : PlaceId) → Found (GoesOn (before ++ p ∷ []) k bound)) → (m : ℕ) → Found (GoesOn before (suc k) m)
  by_first k before rest zero = narrower (λ ps. ps ≡ before) (GoesOn before (suc k) zero)
      (λ ps g. g.is ∙ ap (λ (z : List PlaceId). before ++ z) (none g.more g.first) ∙ append-nil before) (one before) where
        none : (qs : List PlaceId) → FirstBelow zero qs → qs ≡ []
        none [] f = refl
        none (q ∷ qs) f = absurd (omega arith)
  by_first k before rest (suc m) =
      let p : PlaceId = record { index = m } in
      let Old : List PlaceId → Type 0 = GoesOn before (suc k) m in
      let New : List PlaceId → Type 0 = GoesOn (before ++ p ∷ []) k bound in
      narrower (λ ps. Old ps ⊎ New ps) (GoesOn before (suc k) (suc m))
      (λ ps g. ⊎_elim
      (λ (f : FirstBelow m g.more). inl (record { more = g.more; is = g.is; low = g.low; few = g.few; first = f }))
      (λ (f : BeginsWith p g.more).
      let qs : List PlaceId = f.others in
      let low : All (λ q. q.index < bound) (p ∷ qs) = subst (λ (z : List PlaceId). All (λ q. q.index < bound) z) f.is g.low in
      let tail : All (λ q. q.index < bound) qs = All-tail (λ q. q.index < bound) p qs low in
      let long : length g.more ≡ suc (length qs) = ap (λ (z : List PlaceId). length z) f.is in
      let few = g.few in
      inr (record {
        more = qs;
        is = g.is ∙ ap (λ (z : List PlaceId). before ++ z) f.is ∙ sym (append_assoc before (p ∷ []) qs);
        low = tail;
        few = omega arith;
        first = below qs tail;
      }))
      (first_or m g.more g.first))
      (both Old New (by_first k before rest m) (rest p)) where
        below : (qs : List PlaceId) → All (λ q. q.index < bound) qs → FirstBelow bound qs
        below [] all = tt
        below (q ∷ qs) all = all 0 q (omega arith)

  found : (k : ℕ) (before : List PlaceId) → Found (GoesOn before k bound)
  found zero before = narrower (λ ps. ps ≡ before) (GoesOn before zero bound) (λ ps g. g.is ∙ ap (λ (z : List PlaceId). before ++ z) (none g.more g.few) ∙ append-nil before) (one before) where
    none : (qs : List PlaceId) → length qs ≤ zero → qs ≡ []
    none [] f = refl
    none (q ∷ qs) f = absurd (omega arith)
  found (suc k) before = by_first k before (λ p. found k (before ++ p ∷ [])) bound

  -- of all such lists of at most k places
  pub record IsShortList (k : ℕ) (ps : List PlaceId) : Type 0 where
    pub low : All (λ p. p.index < bound) ps
    pub few : length ps ≤ k

  pub search_all : (k : ℕ) → Found (IsShortList k)
  search_all k = narrower (GoesOn [] k bound) (IsShortList k) (λ ps g. record { more = ps; is = refl; low = g.low; few = g.few; first = below ps g.low }) (found k []) where
    below : (qs : List PlaceId) → All (λ q. q.index < bound) qs → FirstBelow bound qs
    below [] all = tt
    below (q ∷ qs) all = all 0 q (omega arith)
