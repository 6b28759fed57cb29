-- Numbers of eight bytes that stand for the first dates of a longer list.
use Rattle.std.proofs.Common.{◌≡◌, ℕ, ℤ, pos, ◌+◌, ◌-◌, ◌≤◌, ◌<◌, arith, ap, sym, ◌∙◌, subst, ⊎_elim, List, [], ◌∷◌, ◌++◌, length, map, Result, Ok, Err}
use Rattle.std.proofs.lemmas.Bool.{cases_lt}
use Rattle.std.specs.Prelude.{IfOk}
use Rattle.std.proofs.lemmas.List.{get_or_push, get_or_append_left, length-append, map-append}
use Rattle.dioid.specs.Dates.{date_product}
use Rattle.dioid.specs.declared.dates.Date.{Date}
use Rattle.series_form.specs.NumberBounds.{IsMagnitudeUpTo}
use Rattle.series_form.specs.SeriesLimits.{greatest_listed}
use Rattle.series_ops.specs.Cells.{short_of, date_of_short_cell, AreShortOf, IsPushed, cell_of_date, date_of_far_cell, AreCells}
use Rattle.series_ops.specs.ListFunctions.{value_listed}
use Rattle.series_ops.specs.Splits.{greatest_from, split_of}
use Rattle.series_ops.proofs.ScaleLaws.{kept, is_cell, dated_at, cells_more}
use Rattle.series_ops.proofs.Scales.{long_scale, short_scale}
use Rattle.series_ops.proofs.SplitLaws.{greatest_same}

pub shorts_kept : (l n : List ℤ) (z : ℤ) → AreShortOf l n → AreShortOf l (n ++ z ∷ [])
shorts_kept l n z h = record {
  fits = let a : length l ≤ length n = h.fits in let b : length (n ++ z ∷ []) ≡ length n + 1 = length-append n (z ∷ []) in omega arith;
  short = h.short;
  same = λ k w. let a : length l ≤ length n = h.fits in h.same k w ∙ ap date_of_far_cell (sym (get_or_append_left n (z ∷ []) (pos 0) k (omega arith)));
}

pub shorts_pushed : (l n m : List ℤ) (d : Date) → AreShortOf l n → length l ≡ length n → IsMagnitudeUpTo greatest_listed d → IsPushed l m d → AreShortOf m (n ++ cell_of_date d ∷ [])
shorts_pushed l n m d h e low way = ⊎_elim
    (λ same. subst (λ (z : List ℤ). AreShortOf z (n ++ cell_of_date d ∷ [])) (sym same) (shorts_kept l n (cell_of_date d) h))
    (λ more. subst (λ (z : List ℤ). AreShortOf z (n ++ cell_of_date d ∷ [])) (sym more.0) (record {
      fits = let a : length (l ++ short_of d ∷ []) ≡ length l + 1 =
          length-append l (short_of d ∷ []) in let b : length (n ++ cell_of_date d ∷ []) ≡ length n + 1 = length-append n (cell_of_date d ∷ []) in omega arith;
      short = cells_more short_scale l (short_of d) h.short (is_cell short_scale d more.1);
      same = λ k w. ⊎_elim
          (λ here. ap date_of_short_cell (get_or_append_left l (short_of d ∷ []) (pos 0) k here) ∙ h.same k here
          ∙ ap date_of_far_cell (sym (get_or_append_left n (cell_of_date d ∷ []) (pos 0) k (omega arith))))
          (λ last.
          let a : length (l ++ short_of d ∷ []) ≡ length l + 1 = length-append l (short_of d ∷ []) in
          let at : length l ≡ k = omega arith in
          let there : length n ≡ k = omega arith in
          ap date_of_short_cell (get_or_push l (short_of d) (pos 0) k at) ∙ kept short_scale d more.1 ∙ sym (kept long_scale d low)
          ∙ ap date_of_far_cell (sym (get_or_push n (cell_of_date d) (pos 0) k there)))
          (cases_lt k (length l));
    }))
    way

-- their splits are those of the dates
pub short_splits : (l r n o : List ℤ) (k p m : ℕ) → AreShortOf l n → AreShortOf r o → p + m ≤ length l → k < length r
    → greatest_from (split_of (value_listed (map date_of_short_cell l)) (value_listed (map date_of_short_cell r)) k) p m ≡ greatest_from
    (split_of (value_listed (map date_of_far_cell n)) (value_listed (map date_of_far_cell o)) k) p m
short_splits l r n o k p m hl hr wl wr = greatest_same
    (split_of (value_listed (map date_of_short_cell l)) (value_listed (map date_of_short_cell r)) k)
    (split_of (value_listed (map date_of_far_cell n)) (value_listed (map date_of_far_cell o)) k) p p m (λ j w.
    let a : length l ≤ length n = hl.fits in
    let b : length r ≤ length o = hr.fits in
    let first : value_listed (map date_of_short_cell l) (p + j) ≡ value_listed (map date_of_far_cell n) (p + j) =
    dated_at short_scale l (p + j) (omega arith) ∙ hl.same (p + j) (omega arith) ∙ sym (dated_at long_scale n (p + j) (omega arith)) in
    let second : value_listed (map date_of_short_cell r) (k - (p + j)) ≡ value_listed (map date_of_far_cell o) (k - (p + j)) =
    dated_at short_scale r (k - (p + j)) (omega arith) ∙ hr.same (k - (p + j)) (omega arith) ∙ sym (dated_at long_scale o (k - (p + j)) (omega arith)) in
    ap (λ (z : Date). date_product z (value_listed (map date_of_short_cell r) (k - (p + j)))) first ∙ ap (date_product (value_listed (map date_of_far_cell n) (p + j))) second)

-- one date more
pub both_pushed : (l k n m : List ℤ) (z : ℤ) (d : Date) → AreCells n → AreShortOf l n → m ≡ n ++ z ∷ [] → z ≡ cell_of_date d → length l ≡ length n → IsMagnitudeUpTo greatest_listed d → IsPushed l k d
    → AreCells m × AreShortOf k m
both_pushed l k n m z d hn hs em ez e low way =
    let whole : m ≡ n ++ cell_of_date d ∷ [] = em ∙ ap (λ (x : ℤ). n ++ x ∷ []) ez in (
      subst (λ (x : List ℤ). AreCells x) (sym whole) (cells_more long_scale n (cell_of_date d) hn (is_cell long_scale d low)),
      subst (λ (x : List ℤ). AreShortOf k x) (sym whole) (shorts_pushed l n k d hs e low way),
    )

-- one more number, which is not kept in eight bytes
pub numbers_pushed : (l n m : List ℤ) (z : ℤ) (d : Date) → AreCells n → AreShortOf l n → m ≡ n ++ z ∷ [] → z ≡ cell_of_date d → IsMagnitudeUpTo greatest_listed d → AreCells m × AreShortOf l m
numbers_pushed l n m z d hn hs em ez low =
    let whole : m ≡ n ++ cell_of_date d ∷ [] = em ∙ ap (λ (x : ℤ). n ++ x ∷ []) ez in (
      subst (λ (x : List ℤ). AreCells x) (sym whole) (cells_more long_scale n (cell_of_date d) hn (is_cell long_scale d low)),
      subst (λ (x : List ℤ). AreShortOf l x) (sym whole) (shorts_kept l n (cell_of_date d) hs),
    )

pub pushed_dates : (l n : List ℤ) (m : List Date) (z : ℤ) (d : Date) → n ≡ l ++ z ∷ [] → z ≡ cell_of_date d
    → IsMagnitudeUpTo greatest_listed d → map date_of_far_cell l ≡ m → map date_of_far_cell n ≡ m ++ d ∷ []
pushed_dates l n m z d en ez low em =
    let here : date_of_far_cell z ≡ d = ap date_of_far_cell ez ∙ kept long_scale d low in
    ap (map date_of_far_cell) en ∙ map-append date_of_far_cell l (z ∷ [])
    ∙ ap (λ (x : List Date). x ++ date_of_far_cell z ∷ []) em
    ∙ ap (λ (x : Date). m ++ x ∷ []) here

pub always_ok : {T E : Type 0} → (r : Result T E) (P : T → Type 0) → ((x : T) → P x) → IfOk r P
always_ok (Ok x) P h = h x
always_ok (Err e) P h = tt
