-- The start of a firing is the latest of 0 and the ready dates of the initial tokens that it takes.
use Rattle.std.proofs.Common.{ℕ, zero, suc, ◌-◌, ◌<◌, ◌≤◌, ◌≡◌, ◌⊎◌, List, [], ◌∷◌, true, false, length, get_or, take, refl, sym, ap, subst, ◌∙◌, arith, ⊎_elim, inl, inr}
use Rattle.std.specs.Prelude.{All, Any, max}
use Rattle.std.specs.List.{fold}
use Rattle.std.proofs.lemmas.Bool.{cases_Bool, cases_lt}
use Rattle.std.proofs.lemmas.Bool.Decides.{nat_tests}
use Rattle.std.proofs.lemmas.List.{take_all}
use Rattle.teg_net.specs.declared.entries.Place.{Place}
use Rattle.teg_net.specs.Limits.{greatest_input_date}
use Rattle.teg_net.specs.Nets.{NetLists, IsNet}
use Rattle.teg_net.specs.ReadyDates.{ready_date, takes_initial, ready_for, start_date, IsStartDate}
use Rattle.teg_net.proofs.InputDates.{date_within}

-- the latest of a and the dates of the entries
abbrev latest : {X : Type 0} (h : X → ℕ) → ℕ → List X → ℕ
latest h a xs = fold (λ m x. max m (h x)) a xs

latest_from : {X : Type 0} (h : X → ℕ) (a : ℕ) (xs : List X) → a ≤ latest h a xs
latest_from h a [] = omega arith
latest_from h a (x ∷ xs) = let rest = latest_from h (max a (h x)) xs in omega arith

-- each of the entries comes no later
latest_of : {X : Type 0} (h : X → ℕ) (a : ℕ) (xs : List X) → All (λ x. h x ≤ latest h a xs) xs
latest_of h a [] i d l = absurd (omega arith)
latest_of h a (x ∷ xs) zero d l = let rest = latest_from h (max a (h x)) xs in omega arith
latest_of h a (x ∷ xs) (suc i) d l = latest_of h (max a (h x)) xs i d (omega arith)

-- it is one of them
latest_is : {X : Type 0} (h : X → ℕ) (a : ℕ) (xs : List X) → (latest h a xs ≡ a) ⊎ Any (λ x. h x ≡ latest h a xs) xs
latest_is h a [] = inl refl
latest_is h a (x ∷ xs) =
    ⊎_elim
    (λ (same : latest h (max a (h x)) xs ≡ max a (h x)).
    ⊎_elim
    (λ (l : a < h x). let is : max a (h x) ≡ h x = omega arith in inr (0, x, omega arith, refl, sym (same ∙ is)))
    (λ (l : h x ≤ a). let is : max a (h x) ≡ a = omega arith in inl (same ∙ is))
    (cases_lt a (h x)))
    (λ (later : Any (λ y. h y ≡ latest h (max a (h x)) xs) xs). let (i, y, l, r, e) = later in inr (suc i, y, omega arith, r, e))
    (latest_is h (max a (h x)) xs)

-- a place whose token the firing takes
ready_taken : (t k : ℕ) (p : Place) → p.to.index ≡ t → k ≤ p.tokens → ready_for t k p ≡ ready_date p k
ready_taken t k p e l = let b : takes_initial t k p ≡ true = grind (arith, nat_tests) in rw b refl

-- a place whose ready date counts for the firing
ready_counts : (t k : ℕ) (p : Place) → 0 < ready_for t k p → (p.to.index ≡ t) × (k ≤ p.tokens) × (ready_date p k ≡ ready_for t k p)
ready_counts t k p some =
    ⊎_elim
    (λ (b : takes_initial t k p ≡ true). (grind (arith, nat_tests), grind (arith, nat_tests), rw b refl))
    (λ (b : takes_initial t k p ≡ false). let none : ready_for t k p ≡ 0 = rw b refl in absurd (omega arith))
    (cases_Bool (takes_initial t k p))

-- what a pass over all places makes
pub start_date-whole :
    (net : NetLists) (t k n i : ℕ) (ps : List Place) → n ≡ latest (ready_for t k) 0 (take i net.places) → ps ≡ net.places → length ps ≤ i → n ≡ start_date net t k
start_date-whole net t k n i ps e same l = e ∙ ap (latest (ready_for t k) 0) (take_all i net.places (rw same at l))

pub IsStartDate-start_date : (net : NetLists) (t k : ℕ) → IsStartDate net t k (start_date net t k)
IsStartDate-start_date net t k = record {
  late_enough = λ i d l e m. subst (λ n. n ≤ start_date net t k) (ready_taken t k (get_or net.places i d) e m) (latest_of (ready_for t k) 0 net.places i d l);
  reached =
      ⊎_elim
      (λ (none : start_date net t k ≡ 0). inl none)
      (λ (one : Any (λ p. ready_for t k p ≡ start_date net t k) net.places).
      let (i, p, l, r, e) = one in
      ⊎_elim
      (λ (some : 0 < start_date net t k).
      let counts = ready_counts t k p (omega (arith, e)) in
      inr (i, p, l, r, (counts.0, counts.1, counts.2 ∙ e)))
      (λ (none : start_date net t k ≤ 0). inl (omega arith))
      (cases_lt 0 (start_date net t k)))
      (latest_is (ready_for t k) 0 net.places);
}

-- a start is no later than ready dates may be
pub start_date-within : (net : NetLists) (t k most : ℕ) → All (λ p. All (λ d. d ≤ most) p.ready) net.places → start_date net t k ≤ most
start_date-within net t k most all =
    ⊎_elim
    (λ (none : start_date net t k ≡ 0). omega arith)
    (λ (one : Any (λ p. (p.to.index ≡ t) × (k ≤ p.tokens) × (ready_date p k ≡ start_date net t k)) net.places).
    let (i, p, l, r, (into, few, e)) = one in
    let low : ready_date p k ≤ most = date_within p.ready (k - 1) most (subst (λ q. All (λ d. d ≤ most) q.ready) r (all i p l)) in
    omega (arith, low, e))
    (IsStartDate-start_date net t k).reached

-- and keeps the limit of dates
pub start_date-most : (net : NetLists) (t k : ℕ) → IsNet net → start_date net t k ≤ greatest_input_date
start_date-most net t k ok = start_date-within net t k greatest_input_date (λ i d l. (ok.each_place i d l).ready_in)
