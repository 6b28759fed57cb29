-- Lists of fields, of rows and of blocks of rows are read back.
use Rattle.std.proofs.Common.{◌≤◌, subst, ◌≡◌, ℕ, suc, ◌+◌, ◌-◌, ◌*◌, ◌/◌, ◌%◌, ◌<◌, Bool, true, false, not, List, [], ◌∷◌, ◌++◌, All, map, refl, ap}
use Rattle.std.proofs.Common.{ap₂, sym, ◌∙◌, length, get_or, take, drop, zero, arith, append-nil, div-add-mod', div-lt_iff_lt-mul, mod-lt, ext_get_or}
use Rattle.std.proofs.lemmas.Bool.{and_parts, and_from, not-true}
use Rattle.std.proofs.lemmas.List.{get_or_default}
use Rattle.std.proofs.lemmas.List.Elements.{All-head, All-tail}
use Rattle.std.proofs.lemmas.Simd.{map-map}
use Rattle.teg_text.proofs.Words.{all_append}
use Rattle.std.proofs.lemmas.List.FromFn.{length-range_with_len, get_or-range_with_len, get_or-map-range_with_len, length-map-range_with_len}
use Rattle.std.specs.List.{flat_map, list_all, range_with_len}
use Rattle.teg_text.specs.LineBlocks.{first_where, those, onto_blocks, blocks_in, cell_in}
use Rattle.teg_text.proofs.HeadedBlocks.{is_block}

-- what f writes of each value of which P holds passes the test, and g reads it back
pub record IsReadBack {A B : Type 0} (P : A → Type 0) (test : B → Bool) (f : A → B) (g : B → A) : Type 0 where
  pub passes : (a : A) → P a → test (f a) ≡ true
  pub back : (a : A) → P a → g (f a) ≡ a

-- so are lists, element by element
pub map_back : {A B : Type 0} (P : A → Type 0) (f : A → B) (g : B → A) → ((a : A) → P a → g (f a) ≡ a) → (xs : List A) → All P xs → map g (map f xs) ≡ xs
map_back P f g back [] h = refl
map_back P f g back (x ∷ xs) h = ap₂ (λ (y : _) (ys : List _). y ∷ ys) (back x (All-head P x xs h)) (map_back P f g back xs (All-tail P x xs h))

pub map_passes : {A B : Type 0} (P : A → Type 0) (test : B → Bool) (f : A → B) → ((a : A) → P a → test (f a) ≡ true) → (xs : List A) → All P xs → list_all test (map f xs) ≡ true
map_passes P test f passes [] h = refl
map_passes P test f passes (x ∷ xs) h = and_from (test (f x)) (list_all test (map f xs)) (passes x (All-head P x xs h)) (map_passes P test f passes xs (All-tail P x xs h))

pub rows : {A B : Type 0} (P : A → Type 0) (test : B → Bool) (f : A → B) (g : B → A) → IsReadBack P test f g → IsReadBack (All P) (list_all test) (map f) (map g)
rows P test f g r = record { passes = map_passes P test f r.passes; back = map_back P f g r.back }

-- what stands before others, and what stands behind
pub before_back : {A : Type 0} (xs ys : List A) → take (length xs) (xs ++ ys) ≡ xs
before_back [] ys = refl
before_back (x ∷ xs) ys = ap (λ (l : List _). x ∷ l) (before_back xs ys)

pub behind_back : {A : Type 0} (xs ys : List A) (i : ℕ) (d : A) → get_or (xs ++ ys) (length xs + i) d ≡ get_or ys i d
behind_back [] ys i d = let same : 0 + i ≡ i = omega arith in ap (λ (j : ℕ). get_or ys j d) same
behind_back (x ∷ xs) ys i d = let same : suc (length xs) + i ≡ suc (length xs + i) = omega arith in ap (λ (j : ℕ). get_or (x ∷ (xs ++ ys)) j d) same ∙ behind_back xs ys i d

-- blocks of rows

over_back : {L : Type 0} (is_head : L → Bool) (body lines : List L) → list_all (λ l. not (is_head l)) body ≡ true →
    blocks_in is_head (body ++ lines) ≡ record { over = body ++ (blocks_in is_head lines).over; blocks = (blocks_in is_head lines).blocks }
over_back is_head [] lines h = refl
over_back is_head (line ∷ body) lines h =
    let parts = and_parts (not (is_head line)) (list_all (λ l. not (is_head l)) body) h in
    ap (onto_blocks is_head line) (over_back is_head body lines parts.1) ∙ rw (not-true _ parts.0) refl

block_back : {L : Type 0} (is_head : L → Bool) (block lines : List L) → is_block is_head block ≡ true →
    blocks_in is_head (block ++ lines) ≡ record { over = []; blocks = (block ++ (blocks_in is_head lines).over) ∷ (blocks_in is_head lines).blocks }
block_back is_head [] lines h = let no : false ≡ true = h in cc
block_back is_head (line ∷ body) lines h =
    let parts = and_parts (is_head line) (list_all (λ l. not (is_head l)) body) h in
    ap (onto_blocks is_head line) (over_back is_head body lines parts.1) ∙ rw parts.0 refl

pub blocks_back : {A L : Type 0} (is_head : L → Bool) (P : A → Type 0) (f : A → List L) → ((a : A) → P a → is_block is_head (f a) ≡ true) → (xs : List A) → All P xs →
    blocks_in is_head (flat_map f xs) ≡ record { over = []; blocks = map f xs }
blocks_back is_head P f blocks [] h = refl
blocks_back is_head P f blocks (x ∷ xs) h =
    block_back is_head (f x) (flat_map f xs) (blocks x (All-head P x xs h))
    ∙ (rw (blocks_back is_head P f blocks xs (All-tail P x xs h)) (rw (append-nil (f x)) refl))

-- cells in rows of one width, each row behind a word of its own

-- the row of number k, and the rows of the numbers from 1 on
abbrev pub cells_row : {W : Type 0} → (ℕ → W) → (ℕ → ℕ → W) → ℕ → ℕ → List W
cells_row head f width k = head k ∷ map (f k) (range_with_len 0 width)

pub positive_width : (i count width : ℕ) → i < count * width → 0 < width
positive_width i count zero h = absurd (omega arith)
positive_width i count (suc width) h = omega arith

pub cells_back : {A W : Type 0} (P : A → Type 0) (f : A → W) (g : W → A) → ((a : A) → P a → g (f a) ≡ a) →
    (head : ℕ → W) (width count : ℕ) (xs : List A) (d : A) (e : W) → All P xs → length xs ≡ count * width →
    map (λ i. g (cell_in width i e (map (cells_row head (λ k t. f (get_or xs ((k - 1) * width + t) d)) width) (range_with_len 1 count)))) (range_with_len 0 (count * width)) ≡ xs
cells_back {A} {W} P f g back head width count xs d e all full =
    ext_get_or d _ xs (length-map-range_with_len _ 0 (count * width) ∙ sym full) (λ i l. cell i (omega (arith, l, length-map-range_with_len word 0 (count * width)))) where
      row : ℕ → List W
      row k = cells_row head (λ j t. f (get_or xs ((j - 1) * width + t) d)) width k

      word : ℕ → A
      word i = g (cell_in width i e (map (cells_row head (λ k t. f (get_or xs ((k - 1) * width + t) d)) width) (range_with_len 1 count)))

      cell : (i : ℕ) → i < count * width → get_or (map word (range_with_len 0 (count * width))) i d ≡ get_or xs i d
      cell i l =
          let positive = positive_width i count width l in
          let in_row : i / width < count = (div-lt_iff_lt-mul positive).1 l in
          let in_column : i % width < width = mod-lt i positive in
          let here : (i / width + 1 - 1) * width + i % width ≡ i = ap (λ (q : ℕ). q * width + i % width) (omega arith) ∙ div-add-mod' i width in
          get_or-map-range_with_len word 0 (count * width) i i d l (omega arith)
          ∙ ap (λ (line : List W). g (get_or (drop 1 line) (i % width) e))
          (get_or-map-range_with_len (cells_row head (λ k t. f (get_or xs ((k - 1) * width + t) d)) width) 1 count (i / width)
          (i / width + 1) [] in_row (omega arith))
          ∙ ap g (get_or-map-range_with_len (λ t. f (get_or xs ((i / width + 1 - 1) * width + t) d)) 0 width (i % width) (i % width) e in_column (omega arith))
          ∙ ap (λ (n : ℕ). g (f (get_or xs n d))) here
          ∙ back (get_or xs i d) (all i d (omega (arith, l, full)))

-- two kinds of lines, one behind the other, which a test tells apart
pub joined_back : {A B L : Type 0} (test : L → Bool) (f : A → L) (g : B → L) → ((a : A) → test (f a) ≡ true) → ((b : B) → test (g b) ≡ false) → (xs : List A) (ys : List B) →
    (those test (map f xs ++ map g ys) ≡ map f xs) × (those (λ l. not (test l)) (map f xs ++ map g ys) ≡ map g ys)
joined_back test f g passes fails [] [] = (refl, refl)
joined_back test f g passes fails [] (y ∷ ys) = let rest = joined_back test f g passes fails [] ys in (rw (fails y) rest.0, rw (fails y) (ap (λ (l : List _). g y ∷ l) rest.1))
joined_back test f g passes fails (x ∷ xs) ys = let rest = joined_back test f g passes fails xs ys in (rw (passes x) (ap (λ (l : List _). f x ∷ l) rest.0), rw (passes x) rest.1)

-- what holds of each cell holds of all
pub cells_all : {A : Type 0} (P : A → Type 0) (width count : ℕ) (xs : List A) (d : A) → length xs ≡ count * width →
    ((t k : ℕ) → t < width → 1 ≤ k → k ≤ count → P (get_or xs ((k - 1) * width + t) d)) → All P xs
cells_all P width count xs d full cells i e lt =
    let below : i < count * width = omega (arith, lt, full) in
    let positive = positive_width i count width below in
    let row : i / width < count = (div-lt_iff_lt-mul positive).1 below in
    let back : (i / width + 1 - 1) * width + i % width ≡ i = ap (λ (q : ℕ). q * width + i % width) (omega arith) ∙ div-add-mod' i width in
    subst P (ap (λ (c : ℕ). get_or xs c d) back ∙ get_or_default xs i d e lt) (cells (i % width) (i / width + 1) (mod-lt i positive) (omega arith) (omega (arith, row)))

-- numbers below a bound
pub range_all : (P : ℕ → Type 0) (count : ℕ) → ((k : ℕ) → k < count → P k) → All P (range_with_len 0 count)
range_all P count h i d l =
    let below : i < count = omega (arith, l, length-range_with_len 0 count) in
    let here : i ≡ get_or (range_with_len 0 count) i d = sym (get_or-range_with_len 0 count i d below ∙ omega arith) in
    subst P here (h i below)

pub numbered_back : {A : Type 0} (f : ℕ → A) (count : ℕ) (xs : List A) (d : A) → length xs ≡ count → ((k : ℕ) → k < count → f k ≡ get_or xs k d) → map f (range_with_len 0 count) ≡ xs
numbered_back f count xs d full back =
    ext_get_or d _ xs (length-map-range_with_len f 0 count ∙ sym full)
    (λ i l. let below : i < count = omega (arith, l, length-map-range_with_len f 0 count) in get_or-map-range_with_len f 0 count i i d below (omega arith) ∙ back i below)

pub row_back : {A L : Type 0} (g : L → A) (f : ℕ → L) (count : ℕ) (xs : List A) (d : A) → length xs ≡ count → ((k : ℕ) → k < count → g (f k) ≡ get_or xs k d) →
    map g (map f (range_with_len 0 count)) ≡ xs
row_back g f count xs d full back = map-map g f (range_with_len 0 count) ∙ numbered_back (λ k. g (f k)) count xs d full back

pub flat_passes : {A L : Type 0} (P : A → Type 0) (test : L → Bool) (f : A → List L) → ((a : A) → P a → list_all test (f a) ≡ true) → (xs : List A) → All P xs → list_all test (flat_map f xs) ≡ true
flat_passes P test f pass [] h = refl
flat_passes P test f pass (x ∷ xs) h = all_append test (f x) (flat_map f xs) (pass x (All-head P x xs h)) (flat_passes P test f pass xs (All-tail P x xs h))

-- the first that passes
pub first_at : {X : Type 0} (test : X → Bool) (xs : List X) (i : ℕ) (d : X) → i < length xs → ((j : ℕ) → j < i → test (get_or xs j d) ≡ false) → test (get_or xs i d) ≡ true → first_where test xs ≡ i
first_at test [] i d l before here = absurd (omega arith)
first_at test (x ∷ xs) zero d l before here = rw here refl
first_at test (x ∷ xs) (suc i) d l before here = rw (before 0 (omega arith)) (ap suc (first_at test xs i d (omega (arith, l)) (λ j m. before (suc j) (omega (arith, m))) here))

-- a line for each cell, row by row
pub grid_passes : {L : Type 0} (test : L → Bool) (f : ℕ → ℕ → L) (width count : ℕ) → ((t k : ℕ) → t < width → k < count → test (f t k) ≡ true) →
    list_all test (flat_map (λ t. map (f t) (range_with_len 0 count)) (range_with_len 0 width)) ≡ true
grid_passes test f width count pass =
    flat_passes (λ t. t < width) test (λ t. map (f t) (range_with_len 0 count))
    (λ t l. map_passes (λ k. k < count) test (f t) (λ k m. pass t k l m) (range_with_len 0 count) (range_all (λ k. k < count) count (λ k m. m)))
    (range_with_len 0 width) (range_all (λ t. t < width) width (λ t l. l))
