-- Live nets have a circuit of greatest ratio, or none.
use Rattle.std.proofs.Common.{ℕ, zero, suc, ◌*◌, ◌<◌, ◌≤◌, ◌≡◌, ◌≢◌, ◌⊎◌, inl, inr, List, [], ◌∷◌, length, refl, sym, subst, arith, ⊎_elim}
use Rattle.std.specs.Prelude.{All, AllPairs}
use Rattle.std.proofs.lemmas.Bool.{cases_lt, cases_eq}
use Rattle.std.proofs.lemmas.List.Elements.{All-nil, All-cons, All-tail}
use Rattle.std.proofs.Math.Nat.{mul-le-mul_right}
use Rattle.teg_net.specs.declared.entries.PlaceId.{PlaceId}
use Rattle.teg_net.specs.Nets.{NetLists}
use Rattle.teg_net.specs.Ratios.{Fraction}
use Rattle.teg_net.specs.Circuits.{from_of, IsPathBetween, IsCircuit, IsLive, time_of, tokens_of}
use Rattle.teg_net.specs.Parts.{to_of, IsPlaceOfPart}
use Rattle.teg_net.specs.GreatestRatios.{IsGreatestRatio, HasNoCircuit, IsAnyPlace}
use Rattle.teg_net.proofs.PathLaws.{IsPathBetween-in_range}
use Rattle.teg_loops.specs.Loops.{EndsBelow}
use Rattle.teg_loops.proofs.Straight.{straight_short}
use Rattle.pace_laws.specs.RatiosExist.{NetsHaveRatios, PartsHaveRatios, StrongPartsHaveAPace}
use Rattle.pace_laws.proofs.Slower.{cancel}
use Rattle.pace_laws.proofs.Searching.{NonePasses, IsGreatestOf, IsShortList, search_all}
use Rattle.pace_laws.proofs.SomeEnds.{ends_below_some}
use Rattle.pace_laws.proofs.Existing.{place_or, exist}

all_or : {X : Type 0} (P : X → Type 0) → ((x : X) → P x ⊎ (P x → ⊥)) → (xs : List X) → All P xs ⊎ (All P xs → ⊥)
all_or P p [] = inl (All-nil P)
all_or P p (x ∷ xs) = ⊎_elim
    (λ (h : P x).
    ⊎_elim
    (λ (t : All P xs). inl (All-cons P x xs h t))
    (λ (n : All P xs → ⊥). inr (λ a. n (All-tail P x xs a)))
    (all_or P p xs))
    (λ (n : P x → ⊥). inr (λ a. n (a 0 x (omega arith))))
    (p x)

module _ (net : NetLists) where
  path_or : (ps : List PlaceId) (a b : ℕ) → IsPathBetween net a ps b ⊎ (IsPathBetween net a ps b → ⊥)
  path_or [] a b = cases_eq a b
  path_or (p ∷ ps) a b = ⊎_elim
      (λ (l : p.index < length net.places).
      ⊎_elim
      (λ (e : from_of net p ≡ a).
      ⊎_elim
      (λ (t : IsPathBetween net (to_of net p) ps b). inl (l, e, t))
      (λ (n : IsPathBetween net (to_of net p) ps b → ⊥). inr (λ h. n h.2))
      (path_or ps (to_of net p) b))
      (λ (n : from_of net p ≡ a → ⊥). inr (λ h. n h.1))
      (cases_eq (from_of net p) a))
      (λ (g : length net.places ≤ p.index). inr (λ h. let l = h.0 in absurd (omega arith)))
      (cases_lt p.index (length net.places))

  abbrev Once : List PlaceId → Type 0
  Once ps = AllPairs (λ p q. from_of net p ≢ from_of net q) ps

  once_more : (p : PlaceId) (ps : List PlaceId) → All (λ q. from_of net p ≢ from_of net q) ps → Once ps → Once (p ∷ ps)
  once_more p ps h t zero zero d m n = absurd (omega arith)
  once_more p ps h t zero (suc k) d m n = h k d (omega arith)
  once_more p ps h t (suc j) zero d m n = absurd (omega arith)
  once_more p ps h t (suc j) (suc k) d m n = t j k d (omega arith) (omega arith)

  unequal_or : (a b : ℕ) → (a ≢ b) ⊎ (a ≢ b → ⊥)
  unequal_or a b = ⊎_elim (λ (e : a ≡ b). inr (λ n. n e)) (λ (n : a ≡ b → ⊥). inl n) (cases_eq a b)

  once_or : (ps : List PlaceId) → Once ps ⊎ (Once ps → ⊥)
  once_or [] = inl (λ j k d m n. absurd (omega arith))
  once_or (p ∷ ps) = ⊎_elim
      (λ (h : All (λ q. from_of net p ≢ from_of net q) ps).
      ⊎_elim
      (λ (t : Once ps). inl (once_more p ps h t))
      (λ (n : Once ps → ⊥). inr (λ a. n (λ j k d l m. a (suc j) (suc k) d (omega arith) (omega arith))))
      (once_or ps))
      (λ (n : All (λ q. from_of net p ≢ from_of net q) ps → ⊥). inr (λ a. n (λ k d l. a 0 (suc k) d (omega arith) (omega arith))))
      (all_or (λ q. from_of net p ≢ from_of net q) (λ q. unequal_or (from_of net p) (from_of net q)) ps)

  circuit_or : (ps : List PlaceId) → IsCircuit net ps ⊎ (IsCircuit net ps → ⊥)
  circuit_or [] = inr (λ c. let l = c.not_empty in absurd (omega arith))
  circuit_or (p ∷ ps) =
      let a : ℕ = from_of net p in
      ⊎_elim
      (λ (path : IsPathBetween net a (p ∷ ps) a).
      ⊎_elim
      (λ (once : Once (p ∷ ps)). inl (record { not_empty = omega arith; closed = (a, path); leaves_once = once }))
      (λ (n : Once (p ∷ ps) → ⊥). inr (λ c. n c.leaves_once))
      (once_or (p ∷ ps)))
      (λ (n : IsPathBetween net a (p ∷ ps) a → ⊥). inr (λ c. n (subst (λ (z : ℕ). IsPathBetween net z (p ∷ ps) z) (sym c.closed.1.1) c.closed.1)))
      (path_or (p ∷ ps) a a)

  -- a circuit has no more places than there are transitions
  circuit_short : (n : ℕ) → EndsBelow net n → (ps : List PlaceId) → IsCircuit net ps → length ps ≤ n
  circuit_short n e [] c = omega arith
  circuit_short n e (p ∷ ps) c =
      let back : IsPathBetween net (to_of net p) ps (from_of net p) = subst (λ (z : ℕ). IsPathBetween net (to_of net p) ps z) (sym c.closed.1.1) c.closed.1.2 in
      let s = straight_short net n ps (to_of net p) (from_of net p) e (e.from_in p c.closed.1.0) (record {
        path = back;
        leaves_once = λ j k d l m. c.leaves_once (suc j) (suc k) d (omega arith) (omega arith);
        leaves_not_end = λ k d l f. c.leaves_once 0 (suc k) d (omega arith) (omega arith) (sym f);
      }) in
      omega arith

module _ (net : NetLists) (live : IsLive net) (Within : PlaceId → Type 0) (within : (p : PlaceId) → Within p ⊎ (Within p → ⊥)) where
  pub record IsOwnCircuit (ps : List PlaceId) : Type 0 where
    pub circuit : IsCircuit net ps
    pub inside : All Within ps

  own_or : (ps : List PlaceId) → IsOwnCircuit ps ⊎ (IsOwnCircuit ps → ⊥)
  own_or ps = ⊎_elim
      (λ (c : IsCircuit net ps).
      ⊎_elim
      (λ (i : All Within ps). inl (record { circuit = c; inside = i }))
      (λ (n : All Within ps → ⊥). inr (λ o. n o.inside))
      (all_or Within within ps))
      (λ (n : IsCircuit net ps → ⊥). inr (λ o. n o.circuit))
      (circuit_or net ps)

  -- the ratio of the first list is at most that of the second
  abbrev pub AtMost : List PlaceId → List PlaceId → Type 0
  AtMost x y = time_of net x * tokens_of net y ≤ time_of net y * tokens_of net x

  some_tokens : (ps : List PlaceId) → IsCircuit net ps → 1 ≤ tokens_of net ps
  some_tokens ps c = ⊎_elim (λ (l : 0 < tokens_of net ps). omega arith) (λ (l : tokens_of net ps ≤ 0). absurd (live ps c (omega arith))) (cases_lt 0 (tokens_of net ps))

  either : (x y : List PlaceId) → AtMost x y ⊎ AtMost y x
  either x y = ⊎_elim
      (λ (l : time_of net x * tokens_of net y < time_of net y * tokens_of net x). inl (omega arith))
      (λ (g : time_of net y * tokens_of net x ≤ time_of net x * tokens_of net y). inr g)
      (cases_lt (time_of net x * tokens_of net y) (time_of net y * tokens_of net x))

  chained : (t1 k1 t2 k2 t3 k3 : ℕ) → 0 < k2 → t1 * k2 ≤ t2 * k1 → t2 * k3 ≤ t3 * k2 → t1 * k3 ≤ t3 * k1
  chained t1 k1 t2 k2 t3 k3 p a b =
      let m : t1 * k2 * k3 ≤ t2 * k1 * k3 = mul-le-mul_right k3 a in
      let n : t2 * k3 * k1 ≤ t3 * k2 * k1 = mul-le-mul_right k1 b in
      cancel (t1 * k3) (t3 * k1) k2 p (grind (arith, m, n))

  pub ratio_or : HasNoCircuit net Within ⊎ ((r : Fraction) × IsGreatestRatio net Within r)
  ratio_or =
      let ends = ends_below_some net 0 in
      let n : ℕ = ends.0 in
      let long : ℕ = length net.places in
      let join : (x y z : List PlaceId) → IsOwnCircuit y → AtMost x y → AtMost y z → AtMost x z = λ x y z c l m.
      chained (time_of net x) (tokens_of net x) (time_of net y) (tokens_of net y) (time_of net z) (tokens_of net z) (some_tokens y c.circuit) l m in
      let same : (x : List PlaceId) → AtMost x x = λ x. omega arith in
      let listed : (ps : List PlaceId) → IsCircuit net ps → IsShortList long IsOwnCircuit own_or AtMost same either join n ps = λ ps c.
      record { low = IsPathBetween-in_range net ps c.closed.0 c.closed.0 c.closed.1; few = circuit_short net n ends.1 ps c } in
      ⊎_elim
      (λ (no : NonePasses long IsOwnCircuit own_or AtMost same either
      join (IsShortList long IsOwnCircuit own_or AtMost same either join n)). inl (λ ps c i. no ps (listed ps c) (record { circuit = c; inside = i })))
      (λ (o : IsGreatestOf long IsOwnCircuit own_or AtMost same either join (IsShortList long IsOwnCircuit own_or AtMost same either join n)).
      let best : List PlaceId = o.best in
      inr (
        record { time = time_of net best; tokens = tokens_of net best },
        record {
          some = some_tokens best o.is.circuit;
          attained = (best, o.is.circuit, o.is.inside, refl);
          token = some_tokens best o.is.circuit;
          greatest = λ ps c i. o.greatest ps (listed ps c) (record { circuit = c; inside = i });
        },
      ))
      (search_all long IsOwnCircuit own_or AtMost same either join n)

pub nets_have_ratios : NetsHaveRatios
nets_have_ratios net live = ratio_or net live IsAnyPlace (λ p. inl tt)

pub parts_have_ratios : PartsHaveRatios
parts_have_ratios net part_of part live = ratio_or net live (IsPlaceOfPart net part_of part) (place_or net part_of part)

pub have_a_pace : StrongPartsHaveAPace
have_a_pace net part_of part ends live strong = ⊎_elim
    (λ (no : HasNoCircuit net (IsPlaceOfPart net part_of part)). inl no)
    (λ (w : (r : Fraction) × IsGreatestRatio net (IsPlaceOfPart net part_of part) r).
    let v = exist net part_of part w.0 ends strong w.1 in
    inr (record { ratio = w.0; greatest = w.1; potentials = v.0; tight = v.1 }))
    (parts_have_ratios net part_of part live)
