-- One more step of a sum of products.
use Rattle.std.proofs.Common.{◌≡◌, ℕ, ◌<◌, ◌≤◌, ◌*◌, ◌+◌, ap, sym, ◌∙◌, arith, subst, add-one, ⊎_elim, ◌-◌, ◌/◌, ◌%◌, List, [], ◌∷◌, ◌++◌, get_or}
use Rattle.std.proofs.Common.{length-append, below_more, below_none, refl, mul_comm, length}
use Rattle.std.proofs.lemmas.List.{get_or_append_left, get_or-append_right, get_or_past, get_or_read}
use Rattle.std.proofs.lemmas.Bool.{cases_lt}
use Rattle.std.proofs.Math.Nat.{mul-le-mul_right}
use Rattle.dioid.specs.declared.algebra.Dioid.{Ghosts as DioidOf}
use Rattle.dioid_matrix.specs.Products.{StepFits}
use Rattle.dioid_matrix.specs.Sums.{dot}
use Rattle.dioid_matrix.specs.Tables.{AreElements}
use Rattle.dioid_matrix.specs.Turns.{WayFits}
use Rattle.dioid_matrix.proofs.Filled.{HoldsEach}

module _ {M : Type 0} (d : DioidOf M) (a b : ℕ → M) where
  pub dot_more : (k : ℕ) (before x y after : M) → before ≡ dot d k a b → x ≡ a k → y ≡ b k → after ≡ d.sum before (d.product x y) → after ≡ dot d (k + 1) a b
  dot_more k before x y after hb hx hy ha = rw add-one (rw (hb, hx, hy) at ha)

  pub step_fits : (k : ℕ) (before x y : M) → before ≡ dot d k a b → x ≡ a k → y ≡ b k → WayFits d before x y → StepFits d a b k
  step_fits k before x y hb hx hy h = let fits = rw (hb, hx, hy) at h in (fits.0, λ _. fits.1)

  pub step_misfits : (k : ℕ) (before x y : M) → 0 < k → before ≡ dot d k a b → x ≡ a k → y ≡ b k → ¬ WayFits d before x y → ¬ StepFits d a b k
  step_misfits k before x y hk hb hx hy h f = let misfits = rw (hb, hx, hy) at h in misfits (f.0, f.1 hk)

  -- one product, to which zero is added
  pub first_dot : (x y p : M) → d.sum d.zero p ≡ p → x ≡ a 0 → y ≡ b 0 → p ≡ d.product x y → p ≡ dot d 1 a b
  first_dot x y p neutral hx hy hp = sym neutral ∙ ap (d.sum d.zero) (rw (hx, hy) at hp)

  pub first_fits : (x y : M) → x ≡ a 0 → y ≡ b 0 → d.product_fits x y → StepFits d a b 0
  first_fits x y hx hy h = let fits = rw (hx, hy) at h in (fits, λ none. absurd (omega (arith, none)))

  pub first_misfits : (x y : M) → x ≡ a 0 → y ≡ b 0 → ¬ d.product_fits x y → ¬ StepFits d a b 0
  first_misfits x y hx hy h f = let misfits = rw (hx, hy) at h in misfits f.0

-- a value that was read, where its place is written in another way
pub read_as : {M : Type 0} (xs : List M) (at place : ℕ) (x z : M) → at < length xs → x ≡ get_or xs at x → at ≡ place → x ≡ get_or xs place z
read_as xs at place x z h e same = get_or_read xs at x h e z ∙ ap (λ m. get_or xs m z) same

-- a place in a table
pub place_within : (k n column columns len : ℕ) → k < n → column < columns → len ≡ n * columns → k * columns + column < len
place_within k n column columns len hk hc e =
    let more : (k + 1) * columns ≤ n * columns = mul-le-mul_right {m = k + 1} {n = n} columns (omega arith) in
    omega (arith, more, e)

pub row_below : (place rows columns : ℕ) → 1 ≤ columns → place < rows * columns → place / columns + 1 ≤ rows
row_below place rows columns hc hp = ⊎_elim
    (λ l. omega (arith, l))
    (λ m. let more : rows * columns ≤ (place / columns) * columns = mul-le-mul_right {m = rows} {n = place / columns} columns m in
    let parts : columns * (place / columns) + place % columns ≡ place = omega arith in
    absurd (omega (arith, more, parts, mul_comm (place / columns) columns)))
    (cases_lt (place / columns) rows)

sub-same : (n : ℕ) → n - n ≡ 0
sub-same n = omega arith

-- the row of a place lies in the table
pub row_within : (place rows columns count len : ℕ) → 1 ≤ columns → place < rows * columns → len ≡ rows * count → place / columns * count + count ≤ len
row_within place rows columns count len hc hp e =
    let more : (place / columns + 1) * count ≤ rows * count = mul-le-mul_right {m = place / columns + 1} {n = rows} count (row_below place rows columns hc hp) in
    omega (arith, more, e)

-- no place
pub holds_none : {M : Type 0} (d : DioidOf M) (fits : ℕ → Type 0) (value : ℕ → M) → HoldsEach d 0 fits value []
holds_none d fits value = record { len = refl; values = below_none _; elements = below_none _; fit = below_none _ }

-- one place more
pub holds_more : {M : Type 0} (d : DioidOf M) (n : ℕ) (fits : ℕ → Type 0) (value : ℕ → M) (xs : List M) (y : M)
    → HoldsEach d n fits value xs → fits n → y ≡ value n → d.is_element y → HoldsEach d (n + 1) fits value (xs ++ y ∷ [])
holds_more {M} d n fits value xs y h f e is =
    let last : get_or (xs ++ y ∷ []) n d.zero ≡ y = get_or-append_right xs (y ∷ []) n n d.zero h.len (omega arith) ∙ ap (λ z. get_or (y ∷ []) z d.zero) (sub-same n) in
    let before = λ (k : ℕ) (l : k < n). let p : get_or (xs ++ y ∷ []) k d.zero ≡ get_or xs k d.zero = get_or_append_left xs (y ∷ []) d.zero k (omega (arith, h.len)) in p in
    record {
      len = rw length-append (omega (arith, h.len));
      values = below_more (λ k. get_or (xs ++ y ∷ []) k d.zero ≡ value k) n (λ k l. before k l ∙ h.values k l) (last ∙ e);
      elements = below_more (λ k. d.is_element (get_or (xs ++ y ∷ []) k d.zero)) n
          (λ k l. subst (λ (z : M). d.is_element z) (sym (before k l)) (h.elements k l)) (subst (λ (z : M). d.is_element z) (sym last) is);
      fit = below_more fits n h.fit f;
    }

-- a list of elements, where zero is one, is read as elements everywhere
pub elements_everywhere : {M : Type 0} (d : DioidOf M) (n : ℕ) (fits : ℕ → Type 0) (value : ℕ → M) (xs : List M) → d.is_element d.zero → HoldsEach d n fits value xs → AreElements d xs
elements_everywhere {M} d n fits value xs zero_is h k = ⊎_elim
    (λ l. h.elements k l)
    (λ m. subst (λ (z : M). d.is_element z) (sym (get_or_past xs k d.zero (omega (arith, h.len, m)))) zero_is)
    (cases_lt k n)

-- a place in the row of another
pub pivot_within : (place size k len : ℕ) → k < size → place < size * size → len ≡ size * size → place / size * size + k < len
pivot_within place size k len hk hp e =
    let b : place / size * size + size ≤ len = row_within place size size size len (omega arith) hp e in
    omega (arith, b)
