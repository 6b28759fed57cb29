-- Sums with what there was of a list before it went on.
use Rattle.std.proofs.Common.{◌≡◌, refl, ap, arith, ℕ, ◌+◌, ◌-◌, ◌≤◌, ◌<◌, sym, ◌∙◌, subst, List, [], ◌∷◌, ◌++◌, length, take}
use Rattle.std.proofs.lemmas.List.{length-take-le, get_or-take, take-append-le, length-append}
use Rattle.std.proofs.Math.ListN.{get_or-eq_default}
use Rattle.std.proofs.Math.Seq.{take-length}
use Rattle.dioid.specs.Dates.{later_of, date_product}
use Rattle.dioid.specs.Proved.DateLaws.{times_early}
use Rattle.dioid.specs.declared.dates.Date.{Date}
use Rattle.dioid.specs.declared.dates.Date.TheVariants.{Early}
use Rattle.series_ops.specs.ListFunctions.{value_listed}
use Rattle.series_ops.specs.Pieces.{window, ArePieceSums, IsPieceBegun}
use Rattle.series_ops.specs.Splits.{greatest_from, split_of, places_to}
use Rattle.series_ops.proofs.FirstValues.{listed_is}
use Rattle.series_ops.proofs.SplitLaws.{greatest_early, greatest_same, greatest_joined}

pub begun_none : (l m : List Date) (p n : ℕ) (r : List Date) → n ≡ 0 → r ≡ [] → IsPieceBegun n r l m p
begun_none l m p n r en er = subst (λ (z : ℕ). IsPieceBegun z r l m p) (sym en) (subst (λ (z : List Date). IsPieceBegun 0 z l m p) (sym er) (record { fits = omega arith; sums = refl }))

pub begun_whole : (n : ℕ) (r l m : List Date) (p : ℕ) → ArePieceSums r l m 0 p → n ≡ length m → IsPieceBegun n r l m p
begun_whole n r l m p h e = subst (λ (z : ℕ). IsPieceBegun z r l m p) (sym e)
    (record { fits = omega arith; sums = subst (λ (z : List Date). ArePieceSums r l z 0 p) (sym (take-length m)) h })

pub begun_pushed : (n : ℕ) (r l m k : List Date) (p : ℕ) (d : Date) → IsPieceBegun n r l m p → k ≡ m ++ d ∷ [] → IsPieceBegun n r l k p
begun_pushed n r l m k p d h e = subst (λ (z : List Date). IsPieceBegun n r l z p) (sym e) (record {
  fits = let a : n ≤ length m = h.fits in let b : length (m ++ d ∷ []) ≡ length m + 1 = length-append m (d ∷ []) in omega arith;
  sums = subst (λ (z : List Date). ArePieceSums r l z 0 p) (sym (take-append-le n m (d ∷ []) h.fits)) h.sums;
})

-- the sums with the first n values, and the near ones
window_near : (s t u : ℕ → Date) (n p k : ℕ) → ((i : ℕ) → i < n → u i ≡ t i) → ((i : ℕ) → n ≤ i → u i ≡ Early)
    → later_of (greatest_from (split_of s t k) 0 (places_to n p k)) (window s u 0 p k) ≡ window s t 0 p k
window_near s t u n p k low high =
    let a : ℕ = places_to n p k in
    let b : ℕ = places_to 0 p k - a in
    let whole : places_to 0 p k ≡ a + b = omega arith in
    let near : greatest_from (split_of s u k) 0 a ≡ Early =
    greatest_early (split_of s u k) 0 a (λ j w. ap (date_product (s (0 + j))) (high (k - (0 + j)) (omega arith)) ∙ times_early (s (0 + j))) in
    let rest : greatest_from (split_of s u k) (0 + a) b ≡ greatest_from (split_of s t k) (0 + a) b =
    greatest_same (split_of s u k) (split_of s t k) (0 + a) (0 + a) b (λ j w. ap (date_product (s ((0 + a) + j))) (low (k - ((0 + a) + j)) (omega arith))) in
    ap (later_of (greatest_from (split_of s t k) 0 a))
    (ap (greatest_from (split_of s u k) 0) whole ∙ greatest_joined (split_of s u k) 0 a b
    ∙ ap (λ (z : Date). later_of z (greatest_from (split_of s u k) (0 + a) b)) near ∙ rest)
    ∙ sym (greatest_joined (split_of s t k) 0 a b)
    ∙ ap (greatest_from (split_of s t k) 0) (sym whole)

pub begun_window : (n : ℕ) (r q l m : List Date) (p k : ℕ) → IsPieceBegun n r l m p → q ≡ r → k < length q
    → later_of (greatest_from (split_of (value_listed l) (value_listed m) k) 0 (places_to n p k)) (value_listed q k) ≡ window (value_listed l) (value_listed m) 0 p k
begun_window n r q l m p k h e w =
    let own : k < length r = subst (λ (z : List Date). k < length z) e w in
    let here : value_listed q k ≡ window (value_listed l) (value_listed (take n m)) 0 p k = ap (λ (z : List Date). value_listed z k) e
    ∙ listed_is (window (value_listed l) (value_listed (take n m)) 0 p) (length r) r h.sums k own in
    ap (later_of (greatest_from (split_of (value_listed l) (value_listed m) k) 0 (places_to n p k))) here
    ∙ window_near (value_listed l) (value_listed m) (value_listed (take n m)) n p k
    (λ i u. get_or-take n m i Early u)
    (λ i u. let size : length (take n m) ≡ n = length-take-le n m h.fits in get_or-eq_default (take n m) Early {n = i} (omega arith))
