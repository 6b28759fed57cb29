-- The rows of a list, one after another, are its lines.
use Rattle.std.proofs.Common.{ℕ, ◌+◌, ◌<◌, ◌≤◌, ◌≡◌, List, [], ◌∷◌, ◌++◌, length, map, refl, sym, ap, ◌∙◌, arith}
use Rattle.std.specs.Fmt.{decimal}
use Rattle.std.specs.List.{flat_map, range_with_len}
use Rattle.std.proofs.lemmas.List.{append-nil, ext_get_or, get_or-map, length-map}
use Rattle.std.proofs.lemmas.List.Folds.{flat_map-map}
use Rattle.std.proofs.lemmas.List.FromFn.{get_or-map-range_with_len, length-map-range_with_len}
use Rattle.dioid.specs.declared.dates.Date.{Date}
use Rattle.dioid.specs.declared.dates.Date.TheVariants.{Early}
use Rattle.teg_net.specs.Nets.{NetLists}
use Rattle.date_rows.specs.Passes.{IsRowOf}
use Rattle.teg_report.specs.DateLists.{dated_firing, number_line, listed_count_line, names_line, list_lines, head_text, row_text}
use Rattle.teg_text.specs.Lines.{line_then, written}
use Rattle.teg_text.specs.ValueWords.{date_word}
use Rattle.teg_text.proofs.Joining.{written_map, head_then}

-- two texts of pieces that are the same, number by number
maps_same : (f g : ℕ → List ℕ) (a n : ℕ) → ((k : ℕ) → a ≤ k → k < a + n → f k ≡ g k) → map f (range_with_len a n) ≡ map g (range_with_len a n)
maps_same f g a n h =
    ext_get_or [] (map f (range_with_len a n)) (map g (range_with_len a n)) (length-map-range_with_len f a n ∙ sym (length-map-range_with_len g a n))
    (λ i l.
    let l' : i < n = rw (length-map-range_with_len f a n) at l in
    get_or-map-range_with_len f a n i (a + i) [] l' refl ∙ (h (a + i) (omega arith) (omega arith) ∙ sym (get_or-map-range_with_len g a n i (a + i) [] l' refl)))

pieces_same : (f g : ℕ → List ℕ) (a n : ℕ) → ((k : ℕ) → a ≤ k → k < a + n → f k ≡ g k) → flat_map f (range_with_len a n) ≡ flat_map g (range_with_len a n)
pieces_same f g a n h =
    sym (flat_map-map (λ (l : List ℕ). l) f (range_with_len a n))
    ∙ (ap (flat_map (λ (l : List ℕ). l)) (maps_same f g a n h) ∙ flat_map-map (λ (l : List ℕ). l) g (range_with_len a n))

-- the dates of a row are those of the line
words_of_row : (net : NetLists) (x : ℕ → ℕ → Date) (k : ℕ) (row : List Date) → IsRowOf net x k row → map date_word row ≡ map (dated_firing x k) (range_with_len 0 (length net.transitions))
words_of_row net x k row is =
    ext_get_or [] (map date_word row) (map (dated_firing x k) (range_with_len 0 (length net.transitions)))
    (length-map row date_word ∙ (is.full ∙ sym (length-map-range_with_len (dated_firing x k) 0 (length net.transitions))))
    (λ i l.
    let l' : i < length row = rw (length-map row date_word) at l in
    let in' : i < length net.transitions = omega (arith, is.full) in
    let at : 0 + i ≡ i = omega arith in
    get_or-map date_word row i Early [] l' ∙ (ap date_word (is.same i in') ∙ sym (get_or-map-range_with_len (dated_firing x k) 0 (length net.transitions) i i [] in' at)))

-- the text of a row is the line of its number
pub row_is_line : (net : NetLists) (x : ℕ → ℕ → Date) (k : ℕ) (row : List Date) → IsRowOf net x k row → row_text k row ≡ line_then (number_line (length net.transitions) x k) []
row_is_line net x k row is = ap (λ (words : List (List ℕ)). line_then (decimal k ∷ words) []) (words_of_row net x k row is)

-- the head and the lines of the numbers 1 to count are the list
pub list_of_lines : (net : NetLists) (x : ℕ → ℕ → Date) (count : ℕ) →
    head_text net count ++ flat_map (λ k. line_then (number_line (length net.transitions) x k) []) (range_with_len 1 count) ≡ written (list_lines net x count)
list_of_lines net x count =
    let f = number_line (length net.transitions) x in
    let numbers = range_with_len 1 count in
    let joined : written (map f numbers ++ []) ≡ flat_map (λ k. line_then (f k) []) numbers ++ [] = written_map f numbers [] in
    let same : written (map f numbers) ≡ flat_map (λ k. line_then (f k) []) numbers = simp append-nil at joined in
    ap (λ (l : List ℕ). head_text net count ++ l) (sym same) ∙ head_then (listed_count_line count) (names_line net) (map f numbers)

-- the head and the rows of the numbers 1 to count are the list
pub list_of_rows : (net : NetLists) (x : ℕ → ℕ → Date) (count : ℕ) (rows : ℕ → List Date) → ((k : ℕ) → 1 ≤ k → k ≤ count → IsRowOf net x k (rows k)) →
    head_text net count ++ flat_map (λ k. row_text k (rows k)) (range_with_len 1 count) ≡ written (list_lines net x count)
list_of_rows net x count rows h =
    let same = pieces_same (λ k. row_text k (rows k)) (λ k. line_then (number_line (length net.transitions) x k) []) 1 count (λ k o l. row_is_line net x k (rows k) (h k o (omega arith))) in
    ap (λ (l : List ℕ). head_text net count ++ l) same ∙ list_of_lines net x count
