-- Numbers that stand for dates, where one far below all others stands for Early and one far above for Never: they are
-- added and compared as the dates are.
use Rattle.std.proofs.Common.{◌≡◌, refl, ap, arith, ℕ, ℤ, pos, negsuc, suc, ◌+◌, ◌-◌, ◌≤◌, ◌<◌, ◌+ℤ◌, ◌-ℤ◌, sym, ◌∙◌, subst, ⊎_elim, List, [], ◌∷◌}
use Rattle.std.proofs.Common.{◌++◌, length, get_or, map, true, false, ltb, to_z, of_z, FitsSigned}
use Rattle.std.specs.Prelude.{◌≤ℤ◌, ◌<ℤ◌}
use Rattle.std.specs.Int.{int_max, Width}
use Rattle.std.specs.Int.RustNames.{unsigned_abs}
use Rattle.std.proofs.lemmas.Int.{ints, clamps, by_lt_z, to_z-of_z}
use Rattle.std.proofs.lemmas.Bool.{cases_lt}
use Rattle.std.proofs.lemmas.Bool.Decides.{nat_tests}
use Rattle.std.proofs.lemmas.List.{get_or-map, length-map, get_or_push, get_or_append_left, length-append}
use Rattle.std.proofs.Math.ListN.{get_or-eq_default}
use Rattle.dioid.specs.Dates.{IsAtMostDate, later_of, date_product}
use Rattle.dioid.specs.declared.dates.Date.{Date}
use Rattle.dioid.specs.declared.dates.Date.TheVariants.{Early, At, Never}
use Rattle.dioid.proofs.DateOrder.{never_last, later_is_right, later_is_left}
use Rattle.series_form.specs.NumberBounds.{IsMagnitudeUpTo}
use Rattle.series_form.proofs.DateNumbers.{abs_le, abs_sum}
use Rattle.series_ops.specs.Cells.{cell_by, date_by_far, IsCellBy, AreCellsBy}
use Rattle.series_ops.specs.ListFunctions.{value_listed}
use Rattle.series_ops.specs.Splits.{greatest_from, split_of}

-- how far the two numbers have to lie from the others, and what all of them fit in
pub record IsScale (far bound top : ℕ) (early never : ℤ) (width : Width) : Type 0 where
  pub sums : bound + bound ≤ far
  pub early_low : (early +ℤ pos bound) <ℤ (pos 0 -ℤ pos far)
  pub early_never : (early +ℤ never) <ℤ (pos 0 -ℤ pos far)
  pub never_high : pos far <ℤ (never -ℤ pos bound)
  pub early_top : unsigned_abs early ≤ top
  pub never_top : unsigned_abs never ≤ top
  pub bound_top : bound ≤ top
  pub fits : (z : ℤ) → unsigned_abs z ≤ top + top → FitsSigned width z

module _ {far bound top : ℕ} {early never : ℤ} {width : Width} (scale : IsScale far bound top early never width) where
  -- ---- the date of a number

  pub in_never : (z : ℤ) → pos far <ℤ z → date_by_far far z ≡ Never
  in_never (pos n) h = let w : far < n = omega (arith, ints) in let e : ltb far n ≡ true = grind (arith, nat_tests) in rw e refl
  in_never (negsuc n) h = absurd (omega (arith, ints))

  pub in_early : (z : ℤ) → z <ℤ (pos 0 -ℤ pos far) → date_by_far far z ≡ Early
  in_early (pos n) h = absurd (omega (arith, ints))
  in_early (negsuc n) h = let w : far < suc n = omega (arith, ints) in let e : ltb far (suc n) ≡ true = grind (arith, nat_tests) in rw e refl

  pub in_number : (z : ℤ) → (pos 0 -ℤ pos far) ≤ℤ z → z ≤ℤ pos far → date_by_far far z ≡ At z
  in_number (pos n) g h = let w : n ≤ far = omega (arith, ints) in let e : ltb far n ≡ false = grind (arith, nat_tests) in rw e refl
  in_number (negsuc n) g h = let w : suc n ≤ far = omega (arith, ints) in let e : ltb far (suc n) ≡ false = grind (arith, nat_tests) in rw e refl

  -- ---- the greater number

  pub date_rises : (x y : ℤ) → x ≤ℤ y → IsAtMostDate (date_by_far far x) (date_by_far far y)
  date_rises x y w = by_lt_z (pos far) y
      (λ h. rw (in_never y h) (never_last (date_by_far far x)))
      (λ h. by_lt_z x (pos 0 -ℤ pos far)
      (λ k. rw (in_early x k) tt)
      (λ k. let a : date_by_far far x ≡ At x = in_number x k (omega (arith, ints)) in let b : date_by_far far y ≡ At y = in_number y (omega (arith, ints)) h in rw (a, b) w))

  pub date_greater : (x y : ℤ) → date_by_far far (int_max x y) ≡ later_of (date_by_far far x) (date_by_far far y)
  date_greater x y = by_lt_z x y
      (λ h. let e : int_max x y ≡ y = omega (arith, ints, clamps) in ap (date_by_far far) e ∙ sym (later_is_right (date_by_far far x) (date_by_far far y) (date_rises x y (omega (arith, ints)))))
      (λ h. let e : int_max x y ≡ x = omega (arith, ints, clamps) in ap (date_by_far far) e ∙ sym (later_is_left (date_by_far far x) (date_by_far far y) (date_rises y x h)))

  -- ---- the number of a date

  pub kept : (d : Date) → IsMagnitudeUpTo bound d → date_by_far far (cell_by early never d) ≡ d
  kept Early h = in_early early (omega (arith, ints))
  kept (At t) h = let b = abs_le t bound h in let b0 : t ≤ℤ pos bound = b.0 in let b1 : (pos 0 -ℤ pos bound) ≤ℤ t = b.1 in in_number t (omega (arith, ints)) (omega (arith, ints))
  kept Never h = in_never never (omega (arith, ints))

  pub is_cell : (d : Date) → IsMagnitudeUpTo bound d → IsCellBy far bound early never (cell_by early never d)
  is_cell d h = record { own = ap (cell_by early never) (kept d h); bound = subst (λ (z : Date). IsMagnitudeUpTo bound z) (sym (kept d h)) h }

  cells_added : (a b : Date) → IsMagnitudeUpTo bound a → IsMagnitudeUpTo bound b → date_by_far far (cell_by early never a +ℤ cell_by early never b) ≡ date_product a b
  cells_added Early Early h k = in_early (early +ℤ early) (omega (arith, ints))
  cells_added Early (At t) h k = let c = abs_le t bound k in let c0 : t ≤ℤ pos bound = c.0 in in_early (early +ℤ t) (omega (arith, ints))
  cells_added Early Never h k = in_early (early +ℤ never) (omega (arith, ints))
  cells_added (At s) Early h k = let c = abs_le s bound h in let c0 : s ≤ℤ pos bound = c.0 in in_early (s +ℤ early) (omega (arith, ints))
  cells_added (At s) (At t) h k =
      let b = abs_le s bound h in
      let b0 : s ≤ℤ pos bound = b.0 in
      let b1 : (pos 0 -ℤ pos bound) ≤ℤ s = b.1 in
      let c = abs_le t bound k in
      let c0 : t ≤ℤ pos bound = c.0 in
      let c1 : (pos 0 -ℤ pos bound) ≤ℤ t = c.1 in
      in_number (s +ℤ t) (omega (arith, ints)) (omega (arith, ints))
  cells_added (At s) Never h k = let c = abs_le s bound h in let c1 : (pos 0 -ℤ pos bound) ≤ℤ s = c.1 in in_never (s +ℤ never) (omega (arith, ints))
  cells_added Never Early h k = in_early (never +ℤ early) (omega (arith, ints))
  cells_added Never (At t) h k = let c = abs_le t bound k in let c1 : (pos 0 -ℤ pos bound) ≤ℤ t = c.1 in in_never (never +ℤ t) (omega (arith, ints))
  cells_added Never Never h k = in_never (never +ℤ never) (omega (arith, ints))

  pub date_added : (x y : ℤ) → IsCellBy far bound early never x → IsCellBy far bound early never y → date_by_far far (x +ℤ y) ≡ date_product (date_by_far far x) (date_by_far far y)
  date_added x y h k =
      ap (λ (z : ℤ). date_by_far far (z +ℤ y)) (sym h.own) ∙ ap (λ (z : ℤ). date_by_far far (cell_by early never (date_by_far far x) +ℤ z)) (sym k.own)
      ∙ cells_added (date_by_far far x) (date_by_far far y) h.bound k.bound

  -- ---- how great the numbers are

  cell_bound : (d : Date) → IsMagnitudeUpTo bound d → unsigned_abs (cell_by early never d) ≤ top
  cell_bound Early h = scale.early_top
  cell_bound (At t) h = let a : unsigned_abs t ≤ bound = h in let b : bound ≤ top = scale.bound_top in omega arith
  cell_bound Never h = scale.never_top

  cell_low : (x : ℤ) → IsCellBy far bound early never x → unsigned_abs x ≤ top
  cell_low x h = subst (λ (z : ℤ). unsigned_abs z ≤ top) h.own (cell_bound (date_by_far far x) h.bound)

  pub cells_fit : (x y : ℤ) → IsCellBy far bound early never x → IsCellBy far bound early never y → FitsSigned width (x +ℤ y)
  cells_fit x y h k = scale.fits (x +ℤ y) (abs_sum x y top top (cell_low x h) (cell_low y k))

  -- the sum as the code computes it
  pub sum_code : (x y : ℤ) → IsCellBy far bound early never x → IsCellBy far bound early never y → to_z width (of_z width (to_z width (of_z width x) +ℤ to_z width (of_z width y))) ≡ x +ℤ y
  sum_code x y h k =
      let low : unsigned_abs x ≤ top = cell_low x h in
      let other : unsigned_abs y ≤ top = cell_low y k in
      let a : to_z width (of_z width x) ≡ x = to_z-of_z width x (scale.fits x (omega arith)) in
      let b : to_z width (of_z width y) ≡ y = to_z-of_z width y (scale.fits y (omega arith)) in
      ap (λ (z : ℤ). to_z width (of_z width (z +ℤ to_z width (of_z width y)))) a
      ∙ ap (λ (z : ℤ). to_z width (of_z width (x +ℤ z))) b ∙ to_z-of_z width (x +ℤ y) (cells_fit x y h k)

  -- one of them as the code reads it
  pub own_code : (x : ℤ) → IsCellBy far bound early never x → to_z width (of_z width x) ≡ x
  own_code x h = let low : unsigned_abs x ≤ top = cell_low x h in to_z-of_z width x (scale.fits x (omega arith))

  -- ---- lists

  pub cells_up_to : (l : List ℤ) (k : ℕ) → AreCellsBy far bound early never l → IsMagnitudeUpTo bound (value_listed (map (date_by_far far) l) k)
  cells_up_to l k h = ⊎_elim
      (λ low. subst (λ (z : Date). IsMagnitudeUpTo bound z) (sym (get_or-map (date_by_far far) l k (pos 0) Early low)) (h k low).bound)
      (λ high.
      let size : length (map (date_by_far far) l) ≡ length l = length-map l (date_by_far far) in
      subst (λ (z : Date). IsMagnitudeUpTo bound z) (sym (get_or-eq_default (map (date_by_far far) l) Early {n = k} (omega arith))) tt)
      (cases_lt k (length l))

  pub dated_at : (l : List ℤ) (k : ℕ) → k < length l → value_listed (map (date_by_far far) l) k ≡ date_by_far far (get_or l k (pos 0))
  dated_at l k w = get_or-map (date_by_far far) l k (pos 0) Early w

  pub cells_more : (l : List ℤ) (z : ℤ) → AreCellsBy far bound early never l → IsCellBy far bound early never z → AreCellsBy far bound early never (l ++ z ∷ [])
  cells_more l z h c k w = ⊎_elim
      (λ low. subst (λ (x : ℤ). IsCellBy far bound early never x) (sym (get_or_append_left l (z ∷ []) (pos 0) k low)) (h k low))
      (λ high.
      let long : length (l ++ z ∷ []) ≡ length l + 1 = length-append l (z ∷ []) in
      let e : length l ≡ k = omega arith in
      subst (λ (x : ℤ). IsCellBy far bound early never x) (sym (get_or_push l z (pos 0) k e)) c)
      (cases_lt k (length l))

  -- the sum at a place, as the code computes it
  pub part_code : (l r : List ℤ) (k i : ℕ) → AreCellsBy far bound early never l → AreCellsBy far bound early never r → i < length l → k - i < length r
      → date_by_far far (to_z width (of_z width (to_z width (of_z width (get_or l i (pos 0))) +ℤ to_z width (of_z width (get_or r (k - i) (pos 0))))))
      ≡ split_of (value_listed (map (date_by_far far) l)) (value_listed (map (date_by_far far) r)) k i
  part_code l r k i hl hr wl wr =
      let x : ℤ = get_or l i (pos 0) in
      let y : ℤ = get_or r (k - i) (pos 0) in
      ap (date_by_far far) (sum_code x y (hl i wl) (hr (k - i) wr)) ∙ date_added x y (hl i wl) (hr (k - i) wr)
      ∙ ap (λ (z : Date). date_product z (date_by_far far y)) (sym (dated_at l i wl))
      ∙ ap (date_product (value_listed (map (date_by_far far) l) i)) (sym (dated_at r (k - i) wr))

  -- it fits
  pub part_fits : (l r : List ℤ) (k i : ℕ) → AreCellsBy far bound early never l → AreCellsBy far bound early never r → i < length l → k - i < length r
      → FitsSigned width (to_z width (of_z width (get_or l i (pos 0))) +ℤ to_z width (of_z width (get_or r (k - i) (pos 0))))
  part_fits l r k i hl hr wl wr =
      rw (own_code (get_or l i (pos 0)) (hl i wl), own_code (get_or r (k - i) (pos 0)) (hr (k - i) wr)) (cells_fit (get_or l i (pos 0)) (get_or r (k - i) (pos 0)) (hl i wl) (hr (k - i) wr))

  -- one more split
  pub split_step : (l r : List ℤ) (k p m : ℕ) (best sum new : ℤ) → AreCellsBy far bound early never l → AreCellsBy far bound early never r → p + m < length l → k - (p + m) < length r
      → sum ≡ get_or l (p + m) (pos 0) +ℤ get_or r (k - (p + m)) (pos 0) → new ≡ int_max best sum
      → date_by_far far best ≡ greatest_from (split_of (value_listed (map (date_by_far far) l)) (value_listed (map (date_by_far far) r)) k) p m
      → date_by_far far new ≡ greatest_from (split_of (value_listed (map (date_by_far far) l)) (value_listed (map (date_by_far far) r)) k) p (m + 1)
  split_step l r k p m best sum new hl hr wl wr es en eb =
      let n : suc m ≡ m + 1 = omega arith in
      let x : ℤ = get_or l (p + m) (pos 0) in
      let y : ℤ = get_or r (k - (p + m)) (pos 0) in
      let f : ℕ → Date = split_of (value_listed (map (date_by_far far) l)) (value_listed (map (date_by_far far) r)) k in
      let here : date_by_far far sum ≡ f (p + m) =
      ap (date_by_far far) es ∙ date_added x y (hl (p + m) wl) (hr (k - (p + m)) wr)
      ∙ ap (λ (z : Date). date_product z (date_by_far far y)) (sym (dated_at l (p + m) wl))
      ∙ ap (date_product (value_listed (map (date_by_far far) l) (p + m))) (sym (dated_at r (k - (p + m)) wr)) in
      ap (date_by_far far) en ∙ date_greater best sum
      ∙ ap (λ (z : Date). later_of z (date_by_far far sum)) eb
      ∙ ap (later_of (greatest_from f p m)) here
      ∙ ap (greatest_from f p) n

  -- the same as the code computes it
  pub split_code : (l r : List ℤ) (k p m : ℕ) (best new : ℤ) → AreCellsBy far bound early never l → AreCellsBy far bound early never r → p + m < length l → k - (p + m) < length r
      → new ≡ int_max best (to_z width (of_z width (to_z width (of_z width (get_or l (p + m) (pos 0))) +ℤ to_z width (of_z width (get_or r (k - (p + m)) (pos 0)))))) → FitsSigned width new
      → date_by_far far best ≡ greatest_from (split_of (value_listed (map (date_by_far far) l)) (value_listed (map (date_by_far far) r)) k) p m
      → date_by_far far (to_z width (of_z width new)) ≡ greatest_from (split_of (value_listed (map (date_by_far far) l)) (value_listed (map (date_by_far far) r)) k) p (m + 1)
  split_code l r k p m best new hl hr wl wr en fits eb =
      let sum = sum_code (get_or l (p + m) (pos 0)) (get_or r (k - (p + m)) (pos 0)) (hl (p + m) wl) (hr (k - (p + m)) wr) in
      ap (date_by_far far) (to_z-of_z width new fits) ∙ split_step l r k p m best _ new hl hr wl wr refl (en ∙ ap (int_max best) sum) eb
