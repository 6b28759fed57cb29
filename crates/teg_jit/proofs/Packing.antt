-- Latest dates in eight bytes each.
use Rattle.std.proofs.Common.{ℕ, zero, suc, ◌+◌, ◌*◌, ◌<◌, ◌≤◌, ◌≡◌, List, ◌∷◌, length, get_or, set, map, replicate, refl, sym, ap, ◌∙◌, arith, ⊎_elim}
use Rattle.std.proofs.lemmas.Bool.{cases_lt}
use Rattle.std.proofs.lemmas.List.{get_or-map, map-set, length-map, get_or-replicate, get_or_past, length-replicate}
use Rattle.date_rows.specs.DateCells.{no_number}
use Rattle.teg_jit.specs.declared.answers.Onward.{Onward}
use Rattle.teg_jit.specs.declared.answers.LatestDate.{LatestDate}
use Rattle.teg_jit.specs.declared.answers.LatestDate.TheVariants.{Free, At}
use Rattle.teg_jit.specs.LatestCells.{latest_of, most_cell_date, step_of_number}

free_of : (n : ℕ) → map latest_of (replicate n no_number) ≡ replicate n Free
free_of zero = refl
free_of (suc n) = ap (λ z. Free ∷ z) (free_of n)

pub all_free : (n : ℕ) (cells : List ℕ) (i : ℕ) → cells ≡ replicate n no_number → get_or (map latest_of cells) i Free ≡ Free
all_free n cells i is =
    let free : map latest_of cells ≡ replicate n Free = ap (map latest_of) is ∙ free_of n in
    rw free
    (⊎_elim
    (λ (l : i < n). get_or-replicate n i Free Free l)
    (λ (l : n ≤ i). get_or_past (replicate n Free) i Free (omega (arith, length-replicate n Free)))
    (cases_lt i n))

pub all_count : (n : ℕ) (cells : List ℕ) → cells ≡ replicate n no_number → length (map latest_of cells) ≡ n
all_count n cells is = length-map cells latest_of ∙ (ap length is ∙ length-replicate n no_number)

pub cell_at : (cells : List ℕ) (i d : ℕ) → i < length cells → latest_of (get_or cells i d) ≡ get_or (map latest_of cells) i Free
cell_at cells i d l = sym (get_or-map latest_of cells i d Free l)

pub cell_set : (cells : List ℕ) (i c : ℕ) (b : LatestDate) → latest_of c ≡ b → map latest_of (set cells i c) ≡ set (map latest_of cells) i b
cell_set cells i c b is = map-set latest_of cells i c ∙ ap (λ z. set (map latest_of cells) i z) is

pub cell_copied : (cells other : List ℕ) (i j c : ℕ) → j < length other → c ≡ get_or other j c → map latest_of (set cells i c) ≡ set (map latest_of cells) i (get_or (map latest_of other) j Free)
cell_copied cells other i j c l is = cell_set cells i c (get_or (map latest_of other) j Free) (ap latest_of is ∙ cell_at other j c l)

pub packed_is : (date n : ℕ) (o : Onward) → date < most_cell_date → n ≤ 4001 → step_of_number n ≡ o → latest_of (date * 4096 + n) ≡ At date o
packed_is date n o l m is = grind arith
