-- The dates that a settled form tells up to the end of its first period are its rows.
use Rattle.std.proofs.Common.{ℕ, ◌+◌, ◌-◌, ◌≤◌, ◌≡◌, true, leb, length, List, map, get_or, refl, sym, ap, ◌∙◌, arith}
use Rattle.std.specs.List.{range_with_len}
use Rattle.std.proofs.lemmas.Bool.Decides.{nat_tests}
use Rattle.std.proofs.lemmas.List.{ext_get_or}
use Rattle.std.proofs.lemmas.List.FromFn.{get_or-map-range_with_len, length-map-range_with_len}
use Rattle.settled_laws.specs.dioid.declared.dates.Date.{Date}
use Rattle.settled_laws.specs.dioid.declared.dates.Date.TheVariants.{Early}
use Rattle.settled_laws.specs.SettledForms.{SettledForm, row_date, row_of, settled_date, settled_length}

-- up to there a date is one of the row
pub told_by_row : (f : SettledForm) (t k : ℕ) → k ≤ settled_length f → settled_date f t k ≡ row_date f t k
told_by_row f t k l = let e : leb k (settled_length f) ≡ true = grind (arith, nat_tests) in rw e refl

-- they are all of it
pub row_told : (f : SettledForm) (t : ℕ) → length (row_of f t) ≡ settled_length f →
    map (λ k. row_date f t (k + 1)) (range_with_len 0 (settled_length f)) ≡ row_of f t
row_told f t long =
    let date : ℕ → Date = λ k. row_date f t (k + 1) in
    let told : List Date = map date (range_with_len 0 (settled_length f)) in
    let wide : length told ≡ settled_length f = length-map-range_with_len date 0 (settled_length f) in
    ext_get_or Early told (row_of f t) (wide ∙ sym long)
    (λ i l.
    let back : (i + 1) - 1 ≡ i = omega arith in
    get_or-map-range_with_len date 0 (settled_length f) i i Early (omega (arith, l, wide)) (omega arith) ∙ ap (λ (j : ℕ). get_or (row_of f t) j Early) back)
