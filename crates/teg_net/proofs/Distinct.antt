-- Entries of a list of which no two have the same key.
use Rattle.std.proofs.Common.{ℕ, ◌+◌, ◌-◌, ◌<◌, ◌≤◌, ◌≡◌, ◌≢◌, List, length, get_or, take, drop, sym, ap, subst, ◌∙◌, ⊎_elim, arith, Bool, true, false, IsTrue, refl}
use Rattle.std.specs.Prelude.{AllPairs, Any, MatchBool, ◌↔◌}
use Rattle.std.specs.List.Sorted.{IsNonDecreasing}
use Rattle.std.proofs.lemmas.Bool.{cases_lt}
use Rattle.std.proofs.lemmas.List.{length-drop, get_or-drop, get_or_default, take_rest}

-- no entry before the one at i has the key of a later one
abbrev pub ApartUpTo : {X Y : Type 0} → (X → Y) → List X → ℕ → Type 0
ApartUpTo {X} key xs i = (j k : ℕ) (d : X) → j < i → j < k → k < length xs → key (get_or xs j d) ≢ key (get_or xs k d)

module _ {X Y : Type 0} (key : X → Y) (xs : List X) (i : ℕ) (e : X) (y : Y) (l : i < length xs) (same : key (get_or xs i e) ≡ y) where
  -- an entry after the one at i has its key
  pub key_twice : Any (λ x. key x ≡ y) (drop (i + 1) xs) → AllPairs (λ a b. key a ≢ key b) xs → ⊥
  key_twice (k, x, m, r, s) once =
      let far : i + 1 + k < length xs = omega (arith, length-drop (i + 1) xs) in
      let here : key (get_or xs i x) ≡ y = ap key (get_or_default xs i x e l) ∙ same in
      let there : key (get_or xs (i + 1 + k) x) ≡ y = ap key (sym (get_or-drop (i + 1) xs k x) ∙ r) ∙ s in
      once i (i + 1 + k) x (omega arith) far (here ∙ sym there)

  -- no entry after the one at i has its key
  pub key_once : (Any (λ x. key x ≡ y) (drop (i + 1) xs) → ⊥) → (k : ℕ) (d : X) → i < k → k < length xs → key (get_or xs i d) ≢ key (get_or xs k d)
  key_once none k d m n =
      λ both.
      let x : X = get_or xs k d in
      let place : i + 1 + (k - (i + 1)) ≡ k = omega arith in
      let read : get_or (drop (i + 1) xs) (k - (i + 1)) x ≡ x =
      get_or-drop (i + 1) xs (k - (i + 1)) x ∙ (ap (λ j. get_or xs j x) place ∙ get_or_default xs k x d n)
      in
      none (k - (i + 1), x, omega (arith, length-drop (i + 1) xs), read, sym both ∙ (ap key (get_or_default xs i d e l) ∙ same))

  -- the entries that were looked through have the key
  pub rest_twice : Any (λ x. key x ≡ y) (take (length xs - (i + 1)) (drop (i + 1) xs)) → AllPairs (λ a b. key a ≢ key b) xs → ⊥
  rest_twice any = key_twice (subst (λ z. Any (λ x. key x ≡ y) z) (take_rest xs (i + 1)) any)

  -- the entries that were looked through do not have the key
  pub apart_more : (Any (λ x. key x ≡ y) (take (length xs - (i + 1)) (drop (i + 1) xs)) → ⊥) → ApartUpTo key xs i → ApartUpTo key xs (i + 1)
  apart_more none before j k d m n o =
      ⊎_elim
      (λ (q : j < i). before j k d q n o)
      (λ (q : i ≤ j).
      let is : i ≡ j = omega arith in
      subst
      (λ z. key (get_or xs z d) ≢ key (get_or xs k d))
      is
      (key_once (λ any. none (subst (λ z. Any (λ x. key x ≡ y) z) (sym (take_rest xs (i + 1))) any)) k d (omega arith) o))
      (cases_lt j i)

-- what is answered on a list that never falls
pub falls_told :
    (xs : List ℕ) (r : Bool) → MatchBool r (IsNonDecreasing xs) ((k : ℕ) × (k + 1 < length xs) × ((d : ℕ) → get_or xs (k + 1) d < get_or xs k d))
    → IsTrue r ↔ IsNonDecreasing xs
falls_told xs true h = (λ t. h, λ up. refl)
falls_told xs false h =
    (λ (e : false ≡ true). absurd cc, λ up. let most = up h.0 (h.0 + 1) 0 (omega arith) h.1 in absurd (omega (arith, most, h.2 0)))

pub not_both : (b : Bool) → b ≡ false → b ≡ true → ⊥
not_both b f t = cc
