-- Conjugates of dates and lists: a residual is the conjugate of the sum with the conjugate.
use Rattle.std.proofs.Common.{◌≡◌, refl, ap, arith, ℕ, pos, zero, suc, ◌+◌, ◌-◌, ◌≤◌, ◌<◌, ◌-ℤ◌, sym, ◌∙◌, ⊎_elim, List, [], ◌∷◌, ◌++◌, subst}
use Rattle.std.proofs.Common.{length, get_or, map, reverse, drop}
use Rattle.std.specs.Int.RustNames.{unsigned_abs}
use Rattle.std.proofs.lemmas.Int.{ints, clamps}
use Rattle.std.proofs.lemmas.Bool.{cases_lt}
use Rattle.std.proofs.lemmas.List.{get_or-map, get_or-reverse, length-map, length-reverse, map-append, reverse-append, drop_more}
use Rattle.std.proofs.Math.ListN.{get_or-eq_default}
use Rattle.dioid.specs.Dates.{later_of, earlier_of, date_product, date_left}
use Rattle.dioid.specs.declared.dates.Date.{Date}
use Rattle.dioid.specs.declared.dates.Date.TheVariants.{Early, At, Never}
use Rattle.series_laws.specs.Product.{greatest_of_first}
use Rattle.series_laws.specs.Residual.{least_of_first}
use Rattle.series_form.specs.NumberBounds.{IsMagnitudeUpTo}
use Rattle.series_form.proofs.DateNumbers.{abs_difference}
use Rattle.series_ops.specs.Cells.{conjugate_of, conjugates_reversed}
use Rattle.series_ops.specs.ListFunctions.{AreUpTo, value_listed}

-- ---- conjugates

pub conjugate_twice : (d : Date) → conjugate_of (conjugate_of d) ≡ d
conjugate_twice Early = refl
conjugate_twice (At t) = ap At (omega (arith, ints))
conjugate_twice Never = refl

pub conjugate_up_to : (m : ℕ) (d : Date) → IsMagnitudeUpTo m d → IsMagnitudeUpTo m (conjugate_of d)
conjugate_up_to m Early h = tt
conjugate_up_to m (At t) h = let w : unsigned_abs (pos 0 -ℤ t) ≤ 0 + m = abs_difference (pos 0) t 0 m (omega arith) h in omega arith
conjugate_up_to m Never h = tt

conjugate_later : (a b : Date) → conjugate_of (later_of a b) ≡ earlier_of (conjugate_of a) (conjugate_of b)
conjugate_later Early b = refl
conjugate_later (At s) Early = refl
conjugate_later (At s) (At t) = ap At (omega (arith, ints, clamps))
conjugate_later (At s) Never = refl
conjugate_later Never b = refl

pub left_of_conjugate : (a x : Date) → date_left a (conjugate_of x) ≡ conjugate_of (date_product a x)
left_of_conjugate Early x = refl
left_of_conjugate (At s) Early = refl
left_of_conjugate (At s) (At t) = ap At (omega (arith, ints))
left_of_conjugate (At s) Never = refl
left_of_conjugate Never Early = refl
left_of_conjugate Never (At t) = refl
left_of_conjugate Never Never = refl

pub least_conjugate : (g : ℕ → Date) (n : ℕ) → least_of_first (λ i. conjugate_of (g i)) n ≡ conjugate_of (greatest_of_first g n)
least_conjugate g zero = refl
least_conjugate g (suc n) =
    ap (λ (z : Date). earlier_of z (conjugate_of (g (suc n)))) (least_conjugate g n) ∙ sym (conjugate_later (greatest_of_first g n) (g (suc n)))

-- ---- lists

pub turned_at : (l : List Date) (j : ℕ) → j < length l → get_or (conjugates_reversed l) j Early ≡ conjugate_of (value_listed l (length l - 1 - j))
turned_at l j w =
    let n : length (map conjugate_of l) ≡ length l = length-map l conjugate_of in
    let inside : length l - 1 - j < length l = omega arith in
    get_or-reverse (map conjugate_of l) j Early (omega arith)
    ∙ ap (λ (z : ℕ). get_or (map conjugate_of l) (z - 1 - j) Early) n
    ∙ get_or-map conjugate_of l (length l - 1 - j) Early Early inside

pub turned_length : (l : List Date) → length (conjugates_reversed l) ≡ length l
turned_length l = length-reverse (map conjugate_of l) ∙ length-map l conjugate_of

-- one date more
pub turned_more : (l m : List Date) (i : ℕ) (d : Date) → i < length m → conjugates_reversed l ≡ drop (length m - i) m
    → d ≡ conjugate_of (get_or m (length m - 1 - i) Early) → conjugates_reversed (l ++ d ∷ []) ≡ drop (length m - (i + 1)) m
turned_more l m i d w e ed =
    let back : conjugate_of d ≡ get_or m (length m - 1 - i) Early = ap conjugate_of ed ∙ conjugate_twice (get_or m (length m - 1 - i) Early) in
    let next : length m - 1 - i + 1 ≡ length m - i = omega arith in
    let here : length m - 1 - i ≡ length m - (i + 1) = omega arith in
    ap reverse (map-append conjugate_of l (d ∷ []))
    ∙ reverse-append (map conjugate_of l) (conjugate_of d ∷ [])
    ∙ ap (λ (z : List Date). conjugate_of d ∷ z) e
    ∙ ap (λ (z : Date). z ∷ drop (length m - i) m) back
    ∙ ap (λ (z : ℕ). get_or m (length m - 1 - i) Early ∷ drop z m) (sym next)
    ∙ sym (drop_more m (length m - 1 - i) Early (omega arith))
    ∙ ap (λ (z : ℕ). drop z m) here

-- the numbers of a list are as great as those of its conjugates
pub turned_up_to : (m : ℕ) (l : List Date) → AreUpTo m (conjugates_reversed l) → AreUpTo m l
turned_up_to m l h k = ⊎_elim
    (λ low.
    let there : length l - 1 - (length l - 1 - k) ≡ k = omega arith in
    let back : conjugate_of (get_or (conjugates_reversed l) (length l - 1 - k) Early) ≡ get_or l k Early =
    ap conjugate_of (turned_at l (length l - 1 - k) (omega arith)) ∙ conjugate_twice (value_listed l (length l - 1 - (length l - 1 - k))) ∙ ap (value_listed l) there in
    subst (λ (z : Date). IsMagnitudeUpTo m z) back (conjugate_up_to m (get_or (conjugates_reversed l) (length l - 1 - k) Early) (h (length l - 1 - k))))
    (λ high. subst (λ (z : Date). IsMagnitudeUpTo m z) (sym (get_or-eq_default l Early {n = k} high)) tt)
    (cases_lt k (length l))
