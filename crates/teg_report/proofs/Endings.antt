-- A line of dates that is made from its end.
use Rattle.std.proofs.Common.{ℕ, ◌+◌, ◌-◌, ◌<◌, ◌≡◌, List, [], ◌∷◌, ◌++◌, length, drop, map, get_or, sym, ap, ◌∙◌, arith}
use Rattle.std.proofs.lemmas.List.{drop_all, drop_more, get_or-map, length-map}
use Rattle.dioid.specs.declared.dates.Date.{Date}
use Rattle.dioid.specs.declared.dates.Date.TheVariants.{Early}
use Rattle.teg_text.specs.Lines.{further_then}

-- no word is there yet
pub none_behind : {A : Type 0} (f : A → List ℕ) (xs : List A) → further_then (map f (drop (length xs - 0) xs)) [] ≡ 10 ∷ []
none_behind f xs = ap (λ ys. further_then (map f ys) []) (drop_all (length xs - 0) xs (omega arith))

-- one word more, before the others
pub one_before : {A : Type 0} (f : A → List ℕ) (xs : List A) (i : ℕ) (d : A) → i < length xs
    → further_then (map f (drop (length xs - (i + 1)) xs)) [] ≡ 32 ∷ (f (get_or xs (length xs - 1 - i) d) ++ further_then (map f (drop (length xs - i) xs)) [])
one_before f xs i d l =
    let from : length xs - (i + 1) ≡ length xs - 1 - i = omega arith in
    let next : length xs - 1 - i + 1 ≡ length xs - i = omega arith in
    ap (λ n. further_then (map f (drop n xs)) []) from
    ∙ (ap (λ ys. further_then (map f ys) []) (drop_more xs (length xs - 1 - i) d (omega arith))
    ∙ ap (λ n. 32 ∷ (f (get_or xs (length xs - 1 - i) d) ++ further_then (map f (drop n xs)) [])) next)

-- the date of a cell, so many from the end
pub date_of_cell : {C : Type 0} (held : C → Date) (row : List C) (i : ℕ) (c : C) → i < length row → c ≡ get_or row (length row - 1 - i) c
    → get_or (map held row) (length (map held row) - 1 - i) Early ≡ held c
date_of_cell held row i c l is =
    rw (length-map row held) (get_or-map held row (length row - 1 - i) c Early (omega arith) ∙ ap held (sym is))
