-- Firings put into a list in an order, one after the other.
use Rattle.std.proofs.Common.{zero, suc, ◌≡◌, List, [], ◌∷◌, get_or, refl, sym, ◌∙◌, arith, inl, inr, ⊎_elim}
use Rattle.std.specs.Prelude.{◌⊎◌, All, AllPairs, Contains}
use Rattle.std.proofs.lemmas.List.Kept.{AllPairs-cons}
use Rattle.std.proofs.lemmas.List.{get_or_default}

-- of two items one comes before the other, or they are one
abbrev pub IsOneOrBefore : {X : Type 0} → (X → X → Type 0) → X → X → Type 0
IsOneOrBefore before a b = before a b ⊎ ((a ≡ b) ⊎ before b a)

abbrev pub IsTransitive : {X : Type 0} → (X → X → Type 0) → Type 0
IsTransitive {X} before = (a b c : X) → before a b → before b c → before a c

pub contains_more : {X : Type 0} (y : X) (xs : List X) (x : X) → Contains xs x → Contains (y ∷ xs) x
contains_more y xs x at = (suc at.0, omega (arith, at.1), at.2)

pub contains_split : {X : Type 0} (y : X) (xs : List X) (x : X) → Contains (y ∷ xs) x → (x ≡ y) ⊎ Contains xs x
contains_split y xs x (zero, l, e) = inl (sym e)
contains_split y xs x (suc i, l, e) = inr (i, omega arith, e)

pub all_contained : {X : Type 0} (P : X → Type 0) (xs : List X) → ((x : X) → Contains xs x → P x) → All P xs
all_contained P xs h i d l = h (get_or xs i d) (i, l, get_or_default xs i (get_or xs i d) d l)

pub first_before : {X : Type 0} (before : X → X → Type 0) (y : X) (xs : List X) → AllPairs before (y ∷ xs) → All (before y) xs
first_before before y xs h i d l = h 0 (suc i) d (omega arith) (omega (arith, l))

pub rest_in_order : {X : Type 0} (before : X → X → Type 0) (y : X) (xs : List X) → AllPairs before (y ∷ xs) → AllPairs before xs
rest_in_order before y xs h i j d l m = h (suc i) (suc j) d (omega (arith, l)) (omega (arith, m))

-- the list with the item in its place in the order
pub record Put (X : Type 0) (before : X → X → Type 0) (xs : List X) (x : X) : Type 0 where
  pub list : List X
  pub order : AllPairs before list
  pub here : Contains list x
  pub kept : (y : X) → Contains xs y → Contains list y
  pub only : (y : X) → Contains list y → (y ≡ x) ⊎ Contains xs y

pub put : {X : Type 0} (before : X → X → Type 0) → IsTransitive before → ((a b : X) → IsOneOrBefore before a b) → (xs : List X) (x : X) → AllPairs before xs → Put X before xs x
put before trans total [] x h = record {
  list = x ∷ [];
  order = λ i j d l m. absurd (omega (arith, l, m));
  here = (0, omega arith, refl);
  kept = λ y c. contains_more x [] y c;
  only = λ y c. contains_split x [] y c;
}
put before trans total (y ∷ xs) x h =
    ⊎_elim
    (λ (q : before x y). record {
      list = x ∷ y ∷ xs;
      order = AllPairs-cons before x (y ∷ xs)
          (all_contained (before x) (y ∷ xs) (λ z c.
          ⊎_elim
          (λ (e : z ≡ y). rw e q)
          (λ (e : Contains xs z). trans x y z q (let low = first_before before y xs h e.0 z e.1 in rw e.2 at low))
          (contains_split y xs z c)))
          h;
      here = (0, omega arith, refl);
      kept = λ z c. contains_more x (y ∷ xs) z c;
      only = λ z c. contains_split x (y ∷ xs) z c;
    })
    (λ (q : (x ≡ y) ⊎ before y x).
    ⊎_elim
    (λ (e : x ≡ y). record {
      list = y ∷ xs;
      order = h;
      here = (0, omega arith, sym e);
      kept = λ z c. c;
      only = λ z c. inr c;
    })
    (λ (b : before y x).
    let more = put before trans total xs x (rest_in_order before y xs h) in
    record {
      list = y ∷ more.list;
      order = AllPairs-cons before y more.list
          (all_contained (before y) more.list (λ z c.
          ⊎_elim
          (λ (e : z ≡ x). rw e b)
          (λ (e : Contains xs z). let low = first_before before y xs h e.0 z e.1 in rw e.2 at low)
          (more.only z c)))
          more.order;
      here = contains_more y more.list x more.here;
      kept = λ z c.
          ⊎_elim
          (λ (e : z ≡ y). (0, omega arith, sym e))
          (λ (e : Contains xs z). contains_more y more.list z (more.kept z e))
          (contains_split y xs z c);
      only = λ z c.
          ⊎_elim
          (λ (e : z ≡ y). inr (0, omega arith, sym e))
          (λ (e : Contains more.list z).
          ⊎_elim
          (λ (s : z ≡ x). inl s)
          (λ (s : Contains xs z). inr (contains_more y xs z s))
          (more.only z e))
          (contains_split y more.list z c);
    })
    q)
    (total x y)

-- two lists in the order that have the same items are one
pub same_items : {X : Type 0} (before : X → X → Type 0) → ((a b : X) → before a b → before b a → ⊥) → (xs ys : List X) → AllPairs before xs → AllPairs before ys
    → ((z : X) → Contains xs z → Contains ys z) → ((z : X) → Contains ys z → Contains xs z) → xs ≡ ys
same_items before once [] [] h g to from = refl
same_items before once [] (y ∷ ys) h g to from = let c = from y (0, omega arith, refl) in absurd (omega (arith, c.1))
same_items before once (x ∷ xs) [] h g to from = let c = to x (0, omega arith, refl) in absurd (omega (arith, c.1))
same_items {X} before once (x ∷ xs) (y ∷ ys) h g to from =
    let low : (z : X) → Contains xs z → before x z = λ z c. let l = first_before before x xs h c.0 z c.1 in rw c.2 at l in
    let high : (z : X) → Contains ys z → before y z = λ z c. let l = first_before before y ys g c.0 z c.1 in rw c.2 at l in
    let e : x ≡ y =
    ⊎_elim
    (λ (q : x ≡ y). q)
    (λ (q : Contains ys x).
    ⊎_elim
    (λ (r : y ≡ x). sym r)
    (λ (r : Contains xs y). absurd (once x y (low y r) (high x q)))
    (contains_split x xs y (from y (0, omega arith, refl))))
    (contains_split y ys x (to x (0, omega arith, refl))) in
    let rest : xs ≡ ys =
    same_items before once xs ys (rest_in_order before x xs h) (rest_in_order before y ys g)
    (λ z c.
    ⊎_elim
    (λ (q : z ≡ y). let own : before x x = rw (q ∙ sym e) at (low z c) in absurd (once x x own own))
    (λ (q : Contains ys z). q)
    (contains_split y ys z (to z (contains_more x xs z c))))
    (λ z c.
    ⊎_elim
    (λ (q : z ≡ x). let own : before y y = rw (q ∙ e) at (high z c) in absurd (once y y own own))
    (λ (q : Contains xs z). q)
    (contains_split x xs z (from z (contains_more y ys z c)))) in
    rw (e, rest) refl
