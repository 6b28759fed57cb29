-- Latest dates transition by transition, and number by number.
use Rattle.std.proofs.Common.{ℕ, ◌+◌, ◌-◌, ◌*◌, ◌<◌, ◌≤◌, ◌≡◌, ◌≢◌, List, length, get_or, set, refl, sym, ap, ◌∙◌, arith, ⊎_elim}
use Rattle.std.specs.Prelude.{◌/◌, ◌%◌}
use Rattle.std.proofs.Math.Nat.{mul_comm}
use Rattle.std.proofs.lemmas.Bool.{cases_eq, cases_lt}
use Rattle.std.proofs.lemmas.List.{length-set, get_or-set_same, get_or-set_other, ext_get_or}
use Rattle.std.proofs.lemmas.List.FromFn.{length-map-range_with_len, get_or-map-range_with_len}
use Rattle.std.proofs.lemmas.Nat.{div-mul-add, mod-mul-add, div-add-mod', div_below, mod_below}
use Rattle.date_rows.proofs.Cells.{rows_before, rows_below, cell_within}
use Rattle.teg_jit.specs.declared.answers.LatestDate.{LatestDate}
use Rattle.teg_jit.specs.declared.answers.LatestDate.TheVariants.{Free}
use Rattle.teg_jit.specs.Transposed.{transposed_place, listed_back, AreTransposedTo}

pub some_width : (w n i : ℕ) → i < n * w → 0 < w
some_width w n i l =
    ⊎_elim
    (λ (a : 0 < w). a)
    (λ (a : w ≤ 0).
    let is : w ≡ 0 = omega arith in
    let none : n * w ≡ n * 0 = ap (λ z. n * z) is in
    absurd (omega arith))
    (cases_lt 0 w)

-- where the date of a transition and number stands
pub transposed_is : (w n number t : ℕ) → t < w → transposed_place w n (number * w + t) ≡ t * n + number
transposed_is w n number t l =
    let rest : (number * w + t) % w ≡ t = mod-mul-add number w t l in
    let whole : (number * w + t) / w ≡ number = div-mul-add number w t l in
    rw (rest, whole) refl

pub transposed_in : (w n i : ℕ) → i < n * w → transposed_place w n i < n * w
transposed_in w n i l =
    let some = some_width w n i l in
    let low : i % w < w = mod_below i w some in
    let few : i / w < n = div_below i w n some l in
    let cell = cell_within n (i / w) (i % w + 1) few (omega arith) in
    let rows = rows_below n (i % w + 1) w (omega arith) in
    let same : w * n ≡ n * w = mul_comm w n in
    let row : (i % w + 1) - 1 ≡ i % w = omega arith in
    let at : ((i % w + 1) - 1) * n ≡ (i % w) * n = ap (λ z. z * n) row in
    omega arith

-- two dates stand at two places
transposed_once : (w n i j : ℕ) → i < n * w → j < n * w → transposed_place w n i ≡ transposed_place w n j → i ≡ j
transposed_once w n i j l m e =
    let some = some_width w n i l in
    let few : i / w < n = div_below i w n some l in
    let less : j / w < n = div_below j w n some m in
    let rest : i % w ≡ j % w = sym (div-mul-add (i % w) n (i / w) few) ∙ (ap (λ z. z / n) e ∙ div-mul-add (j % w) n (j / w) less) in
    let whole : i / w ≡ j / w = sym (mod-mul-add (i % w) n (i / w) few) ∙ (ap (λ z. z % n) e ∙ mod-mul-add (j % w) n (j / w) less) in
    let one = div-add-mod' i w in
    let two = div-add-mod' j w in
    let rows : i / w * w ≡ j / w * w = ap (λ z. z * w) whole in
    omega arith

-- a date more
pub transposed_more :
    (w n number t : ℕ) (dates columns : List LatestDate) → number < n → t < w → AreTransposedTo w n dates columns (number * w + t)
    → AreTransposedTo w n dates (set columns (t * n + number) (get_or dates (number * w + t) Free)) (number * w + (t + 1))
transposed_more w n number t dates columns l m h =
    let i : ℕ = number * w + t in
    let at : transposed_place w n i ≡ t * n + number = transposed_is w n number t m in
    let row : (number + 1) * w ≡ number * w + w = rows_before w (number + 1) (omega arith) ∙ ap (λ z. z * w + w) (let z : (number + 1) - 1 ≡ number = omega arith in z) in
    let below = rows_below w (number + 1) n (omega arith) in
    let in' : i < n * w = omega arith in
    let here = transposed_in w n i in' in
    record {
      full = length-set columns (t * n + number) _ ∙ h.full;
      each = λ j k.
          ⊎_elim
          (λ (same : j ≡ i).
          let place : transposed_place w n j ≡ t * n + number = ap (transposed_place w n) same ∙ at in
          let read = get_or-set_same columns (t * n + number) (get_or dates i Free) Free (omega (arith, here, at, h.full)) in
          rw place (read ∙ ap (λ z. get_or dates z Free) (sym same)))
          (λ (apart : j ≢ i).
          let before : j < i = omega arith in
          let other : transposed_place w n j ≢ t * n + number = λ e. apart (transposed_once w n j i (omega arith) in' (e ∙ sym at)) in
          get_or-set_other columns (t * n + number) (transposed_place w n j) (get_or dates i Free) Free other ∙ h.each j before)
          (cases_eq j i);
    }

-- all dates
pub transposed_all : (w n : ℕ) (dates columns : List LatestDate) → length dates ≡ n * w → AreTransposedTo w n dates columns (n * w) → listed_back w n columns ≡ dates
transposed_all w n dates columns full h =
    let long : length (listed_back w n columns) ≡ n * w = length-map-range_with_len (λ i. get_or columns (transposed_place w n i) Free) 0 (n * w) in
    ext_get_or Free (listed_back w n columns) dates (long ∙ sym full) (λ i l.
    let in' : i < n * w = omega arith in
    get_or-map-range_with_len (λ j. get_or columns (transposed_place w n j) Free) 0 (n * w) i i Free in' (omega arith) ∙ h.each i in')

-- a date as it is read
pub transposed_at : (w n i : ℕ) (columns : List LatestDate)
    → i < length (listed_back w n columns) → (i < n * w) × (get_or columns (transposed_place w n i) Free ≡ get_or (listed_back w n columns) i Free)
transposed_at w n i columns l =
    let long : length (listed_back w n columns) ≡ n * w = length-map-range_with_len (λ j. get_or columns (transposed_place w n j) Free) 0 (n * w) in
    let in' : i < n * w = omega arith in
    (in', sym (get_or-map-range_with_len (λ j. get_or columns (transposed_place w n j) Free) 0 (n * w) i i Free in' (omega arith)))
