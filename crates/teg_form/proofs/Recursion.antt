-- Kleene's recursion on the holds of the places without tokens of a net with ranks: each value is a time of a path, and
-- each operation fits.
use Rattle.std.proofs.Common.{ℕ, pos, zero, suc, ◌+◌, ◌<◌, ◌≤◌, ◌≡◌, ◌+ℤ◌, unsigned_abs, ◌^◌, List, get_or, refl, sym, ap, subst, ◌∙◌, arith, ⊎_elim}
use Rattle.std.specs.Prelude.{⊤}
use Rattle.std.specs.Int.{w128}
use Rattle.std.proofs.lemmas.Int.{ints, fits_signed_from_abs}
use Rattle.dioid.specs.declared.dates.Date.{Date}
use Rattle.dioid.specs.declared.dates.Date.TheVariants.{Early, At, Never}
use Rattle.dioid.specs.declared.algebra.Dioid.{Ghosts as DioidOf}
use Rattle.dioid.specs.declared.algebra.Kleene.{Ghosts as KleeneOf}
use Rattle.dioid.specs.Dates.{later_of, date_product, date_star, DateProductFits}
use Rattle.dioid.proofs.DateOrder.{later_either}
use Rattle.dioid_matrix.specs.MatrixStars.{steps_of}
use Rattle.dioid_matrix.specs.Turns.{EntryFits, LastFits}
use Rattle.teg_net.specs.Nets.{NetLists, IsNet}
use Rattle.teg_net.specs.Limits.{greatest_circuit_time}
use Rattle.teg_check.specs.Ranks.{IsRanking}
use Rattle.teg_form.specs.StandardForms.{IsTimeOfFreePath}
use Rattle.teg_form.proofs.FreePaths.{joined, time_below}

-- these are the operations of dates
pub record AreOfDates (d : DioidOf Date) (s : KleeneOf Date) : Type 0 where
  pub zero_is : d.zero ≡ Early
  pub one_is : d.one ≡ At (pos 0)
  pub sum_is : (a b : Date) → d.sum a b ≡ later_of a b
  pub product_is : (a b : Date) → d.product a b ≡ date_product a b
  pub star_is : (a : Date) → s.star a ≡ date_star a
  pub elements : (a : Date) → d.is_element a
  pub sums_fit : (a b : Date) → d.sum_fits a b
  pub products_fit : (a b : Date) → DateProductFits a b → d.product_fits a b
  pub stars_fit : (a : Date) → s.star_fits a

-- none, or the time of a path without tokens along which the rank rises
abbrev pub IsWay : NetLists → List ℕ → ℕ → ℕ → Date → Type 0
IsWay net ranks a b Early = ⊤
IsWay net ranks a b (At x) = (time : ℕ) × IsTimeOfFreePath net a b time × (get_or ranks a 0 < get_or ranks b 0) × (x ≡ pos time)
IsWay net ranks a b Never = ⊥

-- none, or a time within the limit
abbrev pub IsSmall : Date → Type 0
IsSmall Early = ⊤
IsSmall (At x) = (time : ℕ) × (x ≡ pos time) × (time ≤ greatest_circuit_time)
IsSmall Never = ⊥

pub small_fits : (x y : Date) → IsSmall x → IsSmall y → DateProductFits x y
small_fits Early y h l = tt
small_fits (At x) Early h l = tt
small_fits (At x) (At y) (m, e, a) (n, f, b) = rw e (rw f (fits_signed_from_abs w128 (pos m +ℤ pos n) (let g : unsigned_abs (pos m +ℤ pos n) < 2 ^ 127 = omega arith in g)))
small_fits (At x) Never h l = tt
small_fits Never y h l = tt

module _ (net : NetLists) (ranks : List ℕ) (ok : IsNet net) (r : IsRanking net ranks) where
  way_small : (a b : ℕ) (x : Date) → IsWay net ranks a b x → IsSmall x
  way_small a b Early h = tt
  way_small a b (At x) (t, p, l, e) = (t, e, time_below net ranks ok r a b t p)
  way_small a b Never h = absurd h

  later_way : (a b : ℕ) (x y : Date) → IsWay net ranks a b x → IsWay net ranks a b y → IsWay net ranks a b (later_of x y)
  later_way a b x y h l = ⊎_elim
      (λ e. subst (IsWay net ranks a b) (sym e) h)
      (λ e. subst (IsWay net ranks a b) (sym e) l)
      (later_either x y)

  product_way : (a b c : ℕ) (x y : Date) → IsWay net ranks a b x → IsWay net ranks b c y → IsWay net ranks a c (date_product x y)
  product_way a b c Early y h l = tt
  product_way a b c (At x) Early h l = tt
  product_way a b c (At x) (At y) (s, p, u, e) (t, q, v, f) =
      (s + t, joined net a b c s t p q, omega (arith, u, v), let g : x +ℤ y ≡ pos (s + t) = omega (arith, ints, e, f) in g)
  product_way a b c (At x) Never h l = l
  product_way a b c Never y h l = absurd h

  -- no path without tokens leads back
  pub no_way_back : (a : ℕ) (x : Date) → IsWay net ranks a a x → x ≡ Early
  no_way_back a Early h = refl
  no_way_back a (At x) h = absurd (omega (arith, h.2))
  no_way_back a Never h = absurd h

  one_before : (y : Date) → date_product (At (pos 0)) y ≡ y
  one_before Early = refl
  one_before (At y) = let e : pos 0 +ℤ y ≡ y = omega (arith, ints) in ap At e
  one_before Never = refl

  module _ (d : DioidOf Date) (s : KleeneOf Date) (is : AreOfDates d s) (n : ℕ) (a : ℕ → ℕ → Date) (h : (i j : ℕ) → i < n → j < n → IsWay net ranks i j (a i j)) where
    -- the loop at a transition is no loop
    loop_is : (x y : Date) → x ≡ Early → d.product (s.star x) y ≡ y
    loop_is x y e = is.product_is (s.star x) y ∙ ap (λ z. date_product z y) (is.star_is x ∙ ap date_star e) ∙ one_before y

    pub steps_way : (k i j : ℕ) → k ≤ n → i < n → j < n → IsWay net ranks i j (steps_of d s a k i j)
    steps_way zero i j hk hi hj = h i j hi hj
    steps_way (suc k) i j hk hi hj =
        let x : ℕ → ℕ → Date = steps_of d s a k in
        let lk : k < n = omega arith in
        let lek : k ≤ n = omega arith in
        let loops = loop_is (x k k) (x k j) (no_way_back k (x k k) (steps_way k k k lek lk lk)) in
        let is_through : d.sum (x i j) (d.product (x i k) (d.product (s.star (x k k)) (x k j))) ≡ later_of (x i j) (date_product (x i k) (x k j)) =
        is.sum_is _ _ ∙ ap (later_of (x i j)) (is.product_is _ _ ∙ ap (date_product (x i k)) loops) in
        subst (IsWay net ranks i j) (sym is_through)
        (later_way i j (x i j) (date_product (x i k) (x k j)) (steps_way k i j lek hi hj)
        (product_way i k j (x i k) (x k j) (steps_way k i k lek hi lk) (steps_way k k j lek lk hj)))

    pub steps_fit : (k i j : ℕ) → k < n → i < n → j < n → EntryFits d s (steps_of d s a k) k i j
    steps_fit k i j hk hi hj =
        let x : ℕ → ℕ → Date = steps_of d s a k in
        let lek : k ≤ n = omega arith in
        let early = no_way_back k (x k k) (steps_way k k k lek hk hk) in
        let star : At (pos 0) ≡ s.star (x k k) = sym (is.star_is (x k k) ∙ ap date_star early) in
        let one : IsSmall (At (pos 0)) = (0, refl, omega arith) in
        let out = way_small k j (x k j) (steps_way k k j lek hk hj) in
        let into = way_small i k (x i k) (steps_way k i k lek hi hk) in (
          (is.stars_fit (x k k), subst (λ z. d.product_fits z (x k j)) star (is.products_fit _ _ (small_fits (At (pos 0)) (x k j) one out))),
          (subst (λ z. d.product_fits (x i k) z) (sym (loop_is (x k k) (x k j) early)) (is.products_fit _ _ (small_fits (x i k) (x k j) into out)), is.sums_fit _ _),
        )

    pub last_fits : (i j : ℕ) → LastFits d (steps_of d s a n) i j
    last_fits i j t = is.sums_fit _ _
