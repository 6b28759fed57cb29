-- Dates one after another: the first in eight bytes each, the rest as they are.
use Rattle.std.proofs.Common.{ℕ, ◌+◌, ◌-◌, ◌<◌, ◌≤◌, ◌≡◌, List, [], ◌∷◌, ◌++◌, map, length, get_or, take, sym, ap, ◌∙◌, arith}
use Rattle.std.specs.Prelude.{ℤ}
use Rattle.std.proofs.lemmas.List.{append-nil, append_assoc, get_or-map, map-append, length-map, get_or_append_left, get_or-append_right, take_more}
use Rattle.dioid.specs.declared.dates.Date.{Date}
use Rattle.dioid.specs.declared.dates.Date.TheVariants.{Early}
use Rattle.date_rows.specs.DateCells.{date_of_signed_cell}

-- one short date more, where there are no others
pub short_more : (short : List ℤ) (rest : List Date) (cell : ℤ) (date : Date) → rest ≡ [] → date_of_signed_cell cell ≡ date
    → map date_of_signed_cell (short ++ cell ∷ []) ++ rest ≡ (map date_of_signed_cell short ++ rest) ++ date ∷ []
short_more short rest cell date e is =
    let all : map date_of_signed_cell (short ++ cell ∷ []) ++ [] ≡ map date_of_signed_cell short ++ date_of_signed_cell cell ∷ [] =
    append-nil (map date_of_signed_cell (short ++ cell ∷ [])) ∙ map-append date_of_signed_cell short (cell ∷ []) in
    let none : map date_of_signed_cell short ++ [] ≡ map date_of_signed_cell short = append-nil (map date_of_signed_cell short) in
    rw e (all ∙ (ap (λ d. map date_of_signed_cell short ++ d ∷ []) is ∙ ap (λ ds. ds ++ date ∷ []) (sym none)))

-- one date more behind the rest
pub rest_more : (short : List ℤ) (rest : List Date) (date : Date) → map date_of_signed_cell short ++ (rest ++ date ∷ []) ≡ (map date_of_signed_cell short ++ rest) ++ date ∷ []
rest_more short rest date = sym (append_assoc (map date_of_signed_cell short) rest (date ∷ []))

-- where each stands
pub short_at : (short : List ℤ) (rest : List Date) (i : ℕ) (d : ℤ) → i < length short → date_of_signed_cell (get_or short i d) ≡ get_or (map date_of_signed_cell short ++ rest) i Early
short_at short rest i d l =
    let in' : i < length (map date_of_signed_cell short) = omega (arith, length-map short date_of_signed_cell) in
    sym (get_or_append_left (map date_of_signed_cell short) rest Early i in' ∙ get_or-map date_of_signed_cell short i d Early l)

pub rest_at : (short : List ℤ) (rest : List Date) (i : ℕ) → length short ≤ i → get_or rest (i - length short) Early ≡ get_or (map date_of_signed_cell short ++ rest) i Early
rest_at short rest i l =
    let long = length-map short date_of_signed_cell in
    sym (get_or-append_right (map date_of_signed_cell short) rest (length short) i Early long l)

-- one date more of those that come behind the others
pub extended_more : (old now dates : List Date) (i : ℕ) (d : Date) → i < length dates → now ≡ old ++ take i dates → now ++ get_or dates i d ∷ [] ≡ old ++ take (i + 1) dates
extended_more old now dates i d l e =
    ap (λ z. z ++ get_or dates i d ∷ []) e ∙ (append_assoc old (take i dates) (get_or dates i d ∷ []) ∙ ap (λ z. old ++ z) (sym (take_more dates i d l)))

-- the same of cells
pub cells_more : (old now : List Date) (cells : List ℤ) (i : ℕ) (d : ℤ) → i < length cells → now ≡ old ++ map date_of_signed_cell (take i cells)
    → now ++ date_of_signed_cell (get_or cells i d) ∷ [] ≡ old ++ map date_of_signed_cell (take (i + 1) cells)
cells_more old now cells i d l e =
    let more : map date_of_signed_cell (take (i + 1) cells) ≡ map date_of_signed_cell (take i cells) ++ date_of_signed_cell (get_or cells i d) ∷ [] =
    ap (map date_of_signed_cell) (take_more cells i d l) ∙ map-append date_of_signed_cell (take i cells) (get_or cells i d ∷ []) in
    ap (λ z. z ++ date_of_signed_cell (get_or cells i d) ∷ []) e
    ∙ (append_assoc old (map date_of_signed_cell (take i cells)) (date_of_signed_cell (get_or cells i d) ∷ []) ∙ ap (λ z. old ++ z) (sym more))
