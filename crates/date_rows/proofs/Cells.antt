-- Where the dates of firings stand in a list with one row a number.
use Rattle.std.proofs.Common.{ℕ, ◌+◌, ◌-◌, ◌*◌, ◌<◌, ◌≤◌, ◌≡◌, min, sym, ap, ◌∙◌, arith, ⊎_elim}
use Rattle.std.proofs.lemmas.Bool.{cases_lt}
use Rattle.date_rows.specs.DateTables.{firing_position}

-- the rows before k are k - 1
pub rows_before : (w k : ℕ) → 1 ≤ k → k * w ≡ (k - 1) * w + w
rows_before w k o =
    let is : k ≡ (k - 1) + 1 = omega arith in
    let product : ((k - 1) + 1) * w ≡ (k - 1) * w + w = grind arith in
    ap (λ z. z * w) is ∙ product

pub rows_more : (w j d : ℕ) → (j + d) * w ≡ j * w + d * w
rows_more w j d = grind arith

-- fewer rows take no more room
pub rows_below : (w j k : ℕ) → j ≤ k → j * w ≤ k * w
rows_below w j k l =
    let is : j + (k - j) ≡ k = omega arith in
    let product : k * w ≡ j * w + (k - j) * w = ap (λ z. z * w) (sym is) ∙ rows_more w j (k - j) in
    omega (arith, product)

-- a cell of number k stands in the first k rows
pub cell_within : (w t k : ℕ) → t < w → 1 ≤ k → firing_position w t k < k * w
cell_within w t k l o = omega (arith, rows_before w k o)

-- and a cell of a number before k in the first k - 1
pub cell_before : (w t j k : ℕ) → t < w → 1 ≤ j → j < k → firing_position w t j < (k - 1) * w
cell_before w t j k l o m = omega (arith, cell_within w t j l o, rows_below w j (k - 1) (omega arith))

-- with one row more there is one row more of the last `reach`
pub rows_of_more : (w n reach : ℕ) → min (min n reach * w + w) (reach * w) ≡ min (n + 1) reach * w
rows_of_more w n reach =
    ⊎_elim
    (λ (l : n < reach).
    let few : min n reach ≡ n = omega arith in
    let more : min (n + 1) reach ≡ n + 1 = omega arith in
    let room = rows_below w (n + 1) reach (omega arith) in
    let one = rows_more w n 1 in
    rw (few, more) (omega arith))
    (λ (l : reach ≤ n).
    let few : min n reach ≡ reach = omega arith in
    let more : min (n + 1) reach ≡ reach = omega arith in
    rw (few, more) (omega arith))
    (cases_lt n reach)
