-- Own periods that are gathered one after another.
use Rattle.std.proofs.Common.{ℕ, ◌+◌, ◌<◌, ◌≤◌, ◌≡◌, All, List, [], ◌∷◌, ◌++◌, length, sym, subst, ◌∙◌, arith, length-append, ⊎_elim}
use Rattle.std.proofs.lemmas.Bool.{cases_lt}
use Rattle.std.proofs.lemmas.List.{get_or_append_left, get_or_push}
use Rattle.date_rows.specs.DateTables.{TableDates}
use Rattle.own_periods.specs.declared.periods.OwnPeriod.{OwnPeriod}
use Rattle.own_periods.specs.OwnRows.{IsOwn, own_of, no_own}

-- so many of them, each that of its transition
pub record AreOwnUpTo (rows : TableDates) (owns : List OwnPeriod) (n : ℕ) : Type 0 where
  pub count : length owns ≡ n
  pub each : (t : ℕ) → t < n → IsOwn rows t (own_of owns t)

pub one_more : (rows : TableDates) (owns : List OwnPeriod) (own : OwnPeriod) (n : ℕ) → AreOwnUpTo rows owns n → IsOwn rows n own → AreOwnUpTo rows (owns ++ own ∷ []) (n + 1)
one_more rows owns own n h mine =
    let count = h.count in
    record {
      count = length-append owns (own ∷ []) ∙ (let same : length owns + 1 ≡ n + 1 = omega (arith, count) in same);
      each = λ t l.
          ⊎_elim
          (λ (q : t < n).
          let same = get_or_append_left owns (own ∷ []) no_own t (omega (arith, q, count)) in
          subst (IsOwn rows t) (sym same) (h.each t q))
          (λ (q : n ≤ t).
          let is : n ≡ t = omega (arith, q, l) in
          let same = get_or_push owns own no_own n count in
          subst (λ i. IsOwn rows i (own_of (owns ++ own ∷ []) i)) is (subst (IsOwn rows n) (sym same) mine))
          (cases_lt t n);
    }

pub all_push : (P : ℕ → Type 0) (xs : List ℕ) (y : ℕ) → All P xs → P y → All P (xs ++ y ∷ [])
all_push P xs y h own i d l =
    ⊎_elim
    (λ (q : i < length xs). subst P (sym (get_or_append_left xs (y ∷ []) d i q)) (h i d q))
    (λ (q : length xs ≤ i).
    let long = length-append xs (y ∷ []) in
    let is : length xs ≡ i = omega (arith, l, q, long) in
    subst P (sym (get_or_push xs y d i is)) own)
    (cases_lt i (length xs))
