-- A circuit that begins at another of its places.
use Rattle.std.proofs.Common.{ℕ, suc, ◌+◌, ◌-◌, ◌<◌, ◌≤◌, ◌≡◌, ◌≢◌, List, [], ◌∷◌, ◌++◌, length, get_or, take, drop, refl, sym, ap, subst, ◌∙◌, arith, inl, inr, ⊎_elim}
use Rattle.std.specs.Prelude.{AllPairs, sum_by, ◌⊎◌}
use Rattle.std.proofs.lemmas.Bool.{cases_lt}
use Rattle.std.proofs.lemmas.List.{length-append, length-drop, length-take-le, get_or_append_left, get_or-append_right, get_or-drop, get_or-take, take-append-drop, get_or_default}
use Rattle.std.proofs.lemmas.List.Sums.{sum_by-append, sum_by-take-drop}
use Rattle.teg_net.specs.declared.entries.PlaceId.{PlaceId}
use Rattle.teg_net.specs.Nets.{NetLists}
use Rattle.teg_net.specs.Circuits.{from_of, IsPathBetween, IsCircuit, BeginsLowest}
use Rattle.teg_net.specs.Paths.{IsLowestAt}
use Rattle.teg_net.proofs.PathLaws.{IsPathBetween-append, IsPathBetween-split, no_id}

abbrev pub turned : List PlaceId → ℕ → List PlaceId
turned xs k = drop k xs ++ take k xs

pub length-turned : (xs : List PlaceId) (k : ℕ) → k ≤ length xs → length (turned xs k) ≡ length xs
length-turned xs k l = omega (arith, length-append (drop k xs) (take k xs), length-drop k xs, length-take-le k xs l)

-- the place that stands at i after the turn
record Source (xs : List PlaceId) (k i : ℕ) : Type 0 where
  at : ℕ
  within : at < length xs
  same : (d : PlaceId) → get_or (turned xs k) i d ≡ get_or xs at d
  where_ : ((i + k < length xs) × (at ≡ k + i)) ⊎ ((length xs ≤ i + k) × (at + length xs ≡ i + k))

source : (xs : List PlaceId) (k i : ℕ) → k ≤ length xs → i < length xs → Source xs k i
source xs k i l m =
    ⊎_elim
    (λ (q : i + k < length xs).
    let near : i < length (drop k xs) = omega (arith, length-drop k xs) in
    record {
      at = k + i;
      within = omega arith;
      same = λ d. get_or_append_left (drop k xs) (take k xs) d i near ∙ get_or-drop k xs i d;
      where_ = inl (q, refl);
    })
    (λ (q : length xs ≤ i + k).
    let long : length (drop k xs) ≡ length xs - k = length-drop k xs in
    let far : length xs - k ≤ i = omega arith in
    let below : i - (length xs - k) < k = omega arith in
    record {
      at = i - (length xs - k);
      within = omega arith;
      same = λ d. get_or-append_right (drop k xs) (take k xs) (length xs - k) i d long far ∙ get_or-take k xs (i - (length xs - k)) d below;
      where_ = inr (q, omega arith);
    })
    (cases_lt (i + k) (length xs))

pub turned_pairs : (f : PlaceId → ℕ) (xs : List PlaceId) (k : ℕ) → k ≤ length xs → AllPairs (λ p q. f p ≢ f q) xs → AllPairs (λ p q. f p ≢ f q) (turned xs k)
turned_pairs f xs k l h i j d s t =
    let long = length-turned xs k l in
    let a = source xs k i l (omega arith) in
    let b = source xs k j l (omega arith) in
    λ e.
    let same : f (get_or xs a.at d) ≡ f (get_or xs b.at d) = ap f (sym (a.same d)) ∙ (e ∙ ap f (b.same d)) in
    ⊎_elim
    (λ (q : a.at < b.at). h a.at b.at d q b.within same)
    (λ (q : b.at ≤ a.at). let apart : b.at < a.at = omega (arith, a.where_, b.where_) in h b.at a.at d apart a.within (sym same))
    (cases_lt a.at b.at)

pub turned_path : (net : NetLists) (xs : List PlaceId) (k : ℕ) → (a : ℕ) × IsPathBetween net a xs a → (b : ℕ) × IsPathBetween net b (turned xs k) b
turned_path net xs k (a, h) =
    let whole : IsPathBetween net a (take k xs ++ drop k xs) a = subst (λ z. IsPathBetween net a z a) (sym (take-append-drop k xs)) h in
    let s = IsPathBetween-split net (take k xs) (drop k xs) a a whole in
    (s.0, IsPathBetween-append net (drop k xs) (take k xs) s.0 a s.0 s.2 s.1)

pub turned_circuit : (net : NetLists) (xs : List PlaceId) (k : ℕ) → k ≤ length xs → IsCircuit net xs → IsCircuit net (turned xs k)
turned_circuit net xs k l c = record {
  not_empty = omega (arith, length-turned xs k l, c.not_empty);
  closed = turned_path net xs k c.closed;
  leaves_once = turned_pairs (from_of net) xs k l c.leaves_once;
}

pub turned_sum : (f : PlaceId → ℕ) (xs : List PlaceId) (k : ℕ) → sum_by f (turned xs k) ≡ sum_by f xs
turned_sum f xs k = omega (arith, sum_by-append f (drop k xs) (take k xs), sum_by-take-drop f xs k)

-- a list of places of which none leaves a lower transition than the place at 0
begins_lowest : (net : NetLists) (ps : List PlaceId) → ((i : ℕ) (d : PlaceId) → i < length ps → from_of net (get_or ps 0 no_id) ≤ from_of net (get_or ps i d)) → BeginsLowest net ps
begins_lowest net [] h = tt
begins_lowest net (p ∷ ps) h = λ i d l. h (suc i) d (omega arith)

pub turned_lowest : (net : NetLists) (xs : List PlaceId) (k : ℕ) → IsLowestAt net xs k → BeginsLowest net (turned xs k)
turned_lowest net xs k low =
    begins_lowest net (turned xs k)
    (λ i d m.
    let long = length-turned xs k (omega (arith, low.0)) in
    let a = source xs k i (omega (arith, low.0)) (omega arith) in
    let z = source xs k 0 (omega (arith, low.0)) (omega arith) in
    let first : z.at ≡ k = omega (arith, z.where_, low.0) in
    let p : PlaceId = get_or xs a.at d in
    let head : from_of net (get_or (turned xs k) 0 no_id) ≡ from_of net (get_or xs k p) =
    ap (from_of net) (z.same no_id ∙ (ap (λ n. get_or xs n no_id) first ∙ get_or_default xs k no_id p low.0))
    in
    let here : from_of net (get_or (turned xs k) i d) ≡ from_of net p = ap (from_of net) (a.same d) in
    omega (arith, low.1 a.at d a.within, head, here))
