-- The lines of a list, and what is read from them.
use Rattle.std.proofs.Common.{ℕ, zero, suc, ◌+◌, ◌-◌, ◌^◌, ◌<◌, ◌≤◌, ◌≡◌, Bool, true, List, [], ◌∷◌, ◌++◌, length, map, drop, get_or, slice_index_or, refl, sym, ap, ap₂, subst, ◌∙◌, arith}
use Rattle.std.specs.Prelude.{IsTrue}
use Rattle.std.specs.Fmt.{decimal}
use Rattle.std.specs.List.{list_all, range_with_len}
use Rattle.std.proofs.lemmas.Bool.{and_from, and_parts}
use Rattle.std.proofs.lemmas.List.{ext_get_or, get_or-map, length-map}
use Rattle.std.proofs.lemmas.List.FromFn.{get_or-map-range_with_len, length-map-range_with_len}
use Rattle.dioid.specs.declared.dates.Date.{Date}
use Rattle.teg_net.specs.declared.entries.Transition.{Transition}
use Rattle.teg_net.specs.Names.{is_name}
use Rattle.teg_net.specs.Nets.{NetLists, IsNet}
use Rattle.teg_text.specs.Lines.{are_lines, is_line, is_word, phrase, written}
use Rattle.teg_text.specs.WordReading.{lines_in}
use Rattle.teg_text.proofs.LineBlocks.{map_passes, numbered_back}
use Rattle.teg_text.proofs.NamesRead.{name_is_word}
use Rattle.teg_text.proofs.Reading.{written_read}
use Rattle.teg_text.proofs.Words.{decimal_is_word}
use Rattle.word_lines.specs.WordLines.{IsTextOf}
use Rattle.word_lines.proofs.Lines.{passes_at, range_passes, same_lines}
use Rattle.answer_check.specs.ListReading.{AreReadRows, IsReadList, IsRow, row_words, told_word}
use Rattle.answer_check.specs.ShownLists.{IsListText, all_names_line, count_line, lines_of_words, words_line}

-- ---- the lines have words without blanks

-- the two lines before the rows
abbrev pub head_lines : NetLists → ℕ → List (List (List ℕ))
head_lines net count = count_line count ∷ all_names_line net ∷ []

names_are_words : (net : NetLists) → IsNet net → list_all is_word (map (λ (t : Transition). t.name) net.transitions) ≡ true
names_are_words net ok = map_passes (λ (t : Transition). IsTrue (is_name t.name)) is_word (λ (t : Transition). t.name) (λ t h. name_is_word t.name h) net.transitions ok.transition_names

head_are_lines : (net : NetLists) (count : ℕ) → IsNet net → are_lines (head_lines net count) ≡ true
head_are_lines net count ok = rw (decimal_is_word count, names_are_words net ok) refl

rows_are_lines : (width : ℕ) (words : ℕ → ℕ → List ℕ) (count : ℕ) → ((t k : ℕ) → t < width → 1 ≤ k → k ≤ count → is_word (words t k) ≡ true)
    → list_all is_line (map (words_line width words) (range_with_len 1 count)) ≡ true
rows_are_lines width words count are =
    range_passes is_line (words_line width words) 1 count
    (λ k l m. and_from _ _ (decimal_is_word k) (range_passes is_word (λ t. words t k) 0 width (λ t _ lt. are t k (omega (arith, lt)) l (omega (arith, m)))))

pub list_are_lines : (net : NetLists) (count : ℕ) (words : ℕ → ℕ → List ℕ) → IsNet net → ((t k : ℕ) → t < length net.transitions → 1 ≤ k → k ≤ count → is_word (words t k) ≡ true) → are_lines (lines_of_words net words count) ≡ true
list_are_lines net count words ok are = rw (decimal_is_word count, names_are_words net ok) (rows_are_lines (length net.transitions) words count are)

pub list_is_text : (net : NetLists) (text : List ℕ) (count : ℕ) (words : ℕ → ℕ → List ℕ) → IsNet net → IsListText net text count words → IsTextOf text (lines_of_words net words count)
list_is_text net text count words ok h = record { are = list_are_lines net count words ok h.are; told = h.told }

-- ---- rows

-- the words of a row are its number and what is told behind it
row_again : (width k : ℕ) (words : List (List ℕ)) → IsRow width k words → words ≡ decimal k ∷ map (λ t. slice_index_or words (t + 1) []) (range_with_len 0 width)
row_again width k [] h = absurd (omega (arith, h.long))
row_again width k (word ∷ words) h =
    let long : length words ≡ width = omega (arith, h.long) in
    let first : word ≡ decimal k = h.first in
    ap₂ (λ (w : List ℕ) (ws : List (List ℕ)). w ∷ ws) first
    (sym (numbered_back (λ t. get_or (word ∷ words) (t + 1) []) width words [] long (λ t l. let next : t + 1 ≡ suc t = omega arith in ap (λ (i : ℕ). get_or (word ∷ words) i []) next)))

-- a line of words is a row
pub line_is_row : (width k : ℕ) (words : ℕ → ℕ → List ℕ) → IsRow width k (words_line width words k)
line_is_row width k words = record {
  long = (let more = length-map-range_with_len (λ (t : ℕ). words t k) 0 width in omega (arith, more));
  first = refl;
}

pub word_in_line : (width k : ℕ) (words : ℕ → ℕ → List ℕ) (t : ℕ) → t < width → slice_index_or (words_line width words k) (t + 1) [] ≡ words t k
word_in_line width k words t l =
    let next : t + 1 ≡ suc t = omega arith in
    ap (λ (i : ℕ). get_or (words_line width words k) i []) next ∙ get_or-map-range_with_len (λ t. words t k) 0 width t t [] l (omega arith)

-- ---- from rows to the list

-- rows behind two lines
rows_again : (width count : ℕ) (first second : List ℕ) (rest : List (List ℕ)) → length rest ≡ count
    → ((k : ℕ) → 1 ≤ k → k ≤ count → IsRow width k (row_words (first ∷ second ∷ rest) k))
    → map phrase rest ≡ map (words_line width (told_word (first ∷ second ∷ rest))) (range_with_len 1 count)
rows_again width count first second rest long rows =
    let lines : List (List ℕ) = first ∷ second ∷ rest in
    let f = words_line width (told_word lines) in
    ext_get_or [] (map phrase rest) (map f (range_with_len 1 count)) (length-map rest phrase ∙ (long ∙ sym (length-map-range_with_len f 1 count)))
    (λ i l.
    let here : i < length rest = rw (length-map rest phrase) at l in
    let low : i < count = omega (arith, here, long) in
    let next : i + 1 + 1 ≡ suc (suc i) = omega arith in
    let line : row_words lines (i + 1) ≡ phrase (get_or rest i []) = ap (λ (j : ℕ). phrase (get_or lines j [])) next in
    get_or-map phrase rest i [] [] here ∙ (sym line ∙ (row_again width (i + 1) (row_words lines (i + 1)) (rows (i + 1) (omega arith) (omega (arith, low)))
    ∙ sym (get_or-map-range_with_len f 1 count i (i + 1) [] low (omega arith)))))

two_first : (lines : List (List ℕ)) (count : ℕ) → length lines ≡ count + 2 → (first : List ℕ) × (second : List ℕ) × (rest : List (List ℕ)) × (lines ≡ first ∷ second ∷ rest) × (length rest ≡ count)
two_first [] count h = absurd (omega (arith, h))
two_first (a ∷ []) count h = absurd (omega (arith, h))
two_first (a ∷ b ∷ rest) count h = (a, b, rest, refl, omega (arith, h))

-- the two lines before the rows are those of the list
head_same : (net : NetLists) (count : ℕ) (first second : List ℕ) (rest : List (List ℕ)) → IsNet net → are_lines (map phrase (first ∷ second ∷ rest)) ≡ true
    → written (phrase first ∷ phrase second ∷ []) ≡ written (head_lines net count) → phrase first ∷ phrase second ∷ [] ≡ head_lines net count
head_same net count first second rest ok are same =
    let one = and_parts (is_line (phrase first)) _ are in
    let two = and_parts (is_line (phrase second)) _ one.1 in
    let lines : are_lines (phrase first ∷ phrase second ∷ []) ≡ true = rw (one.0, two.0) refl in
    sym (written_read (phrase first ∷ phrase second ∷ []) lines) ∙ (ap lines_in same ∙ written_read (head_lines net count) (head_are_lines net count ok))

-- the words of such rows are words
told_is_word : (width : ℕ) (lines : List (List ℕ)) (t k : ℕ) → are_lines (map phrase lines) ≡ true → k + 1 < length lines → IsRow width k (row_words lines k) → t < width → is_word (told_word lines t k) ≡ true
told_is_word width lines t k are here row l =
    let line : is_line (row_words lines k) ≡ true = subst (λ (ws : List (List ℕ)). is_line ws ≡ true) (get_or-map phrase lines (k + 1) [] [] here)
    (passes_at is_line (map phrase lines) (k + 1) [] are (omega (arith, here, length-map lines phrase))) in
    passes_at is_word (row_words lines k) (t + 1) [] (line_all (row_words lines k) line) (omega (arith, l, row.long)) where
      line_all : (words : List (List ℕ)) → is_line words ≡ true → list_all is_word words ≡ true
      line_all [] h = refl
      line_all (word ∷ words) h = h

-- rows behind these two lines are a list
pub rows_are_list : (net : NetLists) (text : List ℕ) (count : ℕ) (lines : List (List ℕ)) → IsNet net → count < 2 ^ 32 → IsTextOf text (map phrase lines) → length lines ≡ count + 2
    → written (phrase (slice_index_or lines 0 []) ∷ phrase (slice_index_or lines 1 []) ∷ []) ≡ written (head_lines net count)
    → ((k : ℕ) → 1 ≤ k → k ≤ count → IsRow (length net.transitions) k (row_words lines k)) → IsListText net text count (told_word lines)
rows_are_list net text count lines ok few read long head rows =
    let two = two_first lines count long in
    let width : ℕ = length net.transitions in
    record {
      few = few;
      are = λ t k l o m. told_is_word width lines t k read.are (omega (arith, m, long)) (rows k o m) l;
      told = read.told ∙ whole two.0 two.1 two.2 lines two.3 two.4 read.are head rows;
    } where
      whole : (first second : List ℕ) (rest lines : List (List ℕ)) → lines ≡ first ∷ second ∷ rest → length rest ≡ count → are_lines (map phrase lines) ≡ true
          → written (phrase (slice_index_or lines 0 []) ∷ phrase (slice_index_or lines 1 []) ∷ []) ≡ written (head_lines net count)
          → ((k : ℕ) → 1 ≤ k → k ≤ count → IsRow (length net.transitions) k (row_words lines k)) → written (map phrase lines) ≡ written (lines_of_words net (told_word lines) count)
      whole first second rest lines is = subst
          (λ (ls : List (List ℕ)). length rest ≡ count → are_lines (map phrase ls) ≡ true
          → written (phrase (slice_index_or ls 0 []) ∷ phrase (slice_index_or ls 1 []) ∷ []) ≡ written (head_lines net count)
          → ((k : ℕ) → 1 ≤ k → k ≤ count → IsRow (length net.transitions) k (row_words ls k)) → written (map phrase ls) ≡ written (lines_of_words net (told_word ls) count))
          (sym is)
          (λ more are same each.
          ap₂ (λ (two : List (List (List ℕ))) (ls : List (List (List ℕ))). written (two ++ ls)) (head_same net count first second rest ok are same) (rows_again (length net.transitions) count first second rest more each))

-- ---- from the list to its rows

-- lines of which these are the words
pub record IsListed (net : NetLists) (count : ℕ) (words : ℕ → ℕ → List ℕ) (lines : List (List ℕ)) : Type 0 where
  pub long : length lines ≡ count + 2
  pub head : phrase (slice_index_or lines 0 []) ∷ phrase (slice_index_or lines 1 []) ∷ [] ≡ head_lines net count
  pub rows : (k : ℕ) → 1 ≤ k → k ≤ count → row_words lines k ≡ words_line (length net.transitions) words k

pub lines_listed : (net : NetLists) (count : ℕ) (words : ℕ → ℕ → List ℕ) (lines : List (List ℕ)) → map phrase lines ≡ lines_of_words net words count → IsListed net count words lines
lines_listed net count words lines is =
    let f = words_line (length net.transitions) words in
    let long : length lines ≡ count + 2 = sym (length-map lines phrase) ∙ (ap (λ (ls : List (List (List ℕ))). length ls) is ∙ (let more = length-map-range_with_len f 1 count in omega (arith, more))) in
    let at : (i : ℕ) → i < length lines → phrase (get_or lines i []) ≡ get_or (lines_of_words net words count) i [] = λ i l. sym (get_or-map phrase lines i [] [] l) ∙ ap (λ (ls : List (List (List ℕ))). get_or ls i []) is in
    record {
      long = long;
      head = ap₂ (λ (a b : List (List ℕ)). a ∷ b ∷ []) (at 0 (omega (arith, long))) (at 1 (omega (arith, long)));
      rows = λ k o m.
          let next : k + 1 ≡ suc (suc (k - 1)) = omega (arith, o) in
          at (k + 1) (omega (arith, m, long)) ∙ (ap (λ (i : ℕ). get_or (lines_of_words net words count) i []) next
          ∙ get_or-map-range_with_len f 1 count (k - 1) k [] (omega (arith, o, m)) (omega (arith, o)));
    }

-- lists of the same lines tell as many numbers, and the same words
same_lists : (net : NetLists) (a b : ℕ) (u v : ℕ → ℕ → List ℕ) → lines_of_words net u a ≡ lines_of_words net v b → (a ≡ b) × ((t k : ℕ) → t < length net.transitions → 1 ≤ k → k ≤ a → u t k ≡ v t k)
same_lists net a b u v same =
    let width : ℕ = length net.transitions in
    let rows : map (words_line width u) (range_with_len 1 a) ≡ map (words_line width v) (range_with_len 1 b) = ap (λ (ls : List (List (List ℕ))). drop 2 ls) same in
    let as_many : a ≡ b = sym (length-map-range_with_len (words_line width u) 1 a) ∙ (ap (λ (ls : List (List (List ℕ))). length ls) rows ∙ length-map-range_with_len (words_line width v) 1 b) in (
      as_many,
      λ t k l o m.
          let row : words_line width u k ≡ words_line width v k =
          sym (get_or-map-range_with_len (words_line width u) 1 a (k - 1) k [] (omega (arith, o, m)) (omega (arith, o)))
          ∙ (ap (λ (ls : List (List (List ℕ))). get_or ls (k - 1) []) rows
          ∙ get_or-map-range_with_len (words_line width v) 1 b (k - 1) k [] (omega (arith, o, m, as_many)) (omega (arith, o))) in
          sym (word_in_line width k u t l) ∙ (ap (λ (ws : List (List ℕ)). slice_index_or ws (t + 1) []) row ∙ word_in_line width k v t l),
    )

-- so do lists of the same text
pub same_words : (net : NetLists) (text : List ℕ) (a b : ℕ) (u v : ℕ → ℕ → List ℕ) → IsTextOf text (lines_of_words net u a) → IsTextOf text (lines_of_words net v b)
    → (a ≡ b) × ((t k : ℕ) → t < length net.transitions → 1 ≤ k → k ≤ a → u t k ≡ v t k)
same_words net text a b u v one two = same_lists net a b u v (same_lines text (lines_of_words net u a) (lines_of_words net v b) one two)

-- ---- what is read of a text

listed : (net : NetLists) (text : List ℕ) (lines : List (List ℕ)) (count : ℕ) (words : ℕ → ℕ → List ℕ) → IsNet net → IsTextOf text (map phrase lines) → IsListText net text count words → IsListed net count words lines
listed net text lines count words ok read h = lines_listed net count words lines (same_lines text (map phrase lines) (lines_of_words net words count) read (list_is_text net text count words ok h))

-- a text of another number of lines is no list
pub none_long : (net : NetLists) (text : List ℕ) (lines : List (List ℕ)) → IsNet net → IsTextOf text (map phrase lines) → ((count : ℕ) → count < 2 ^ 32 → length lines ≡ count + 2 → ⊥)
    → (count : ℕ) (words : ℕ → ℕ → List ℕ) → IsListText net text count words → ⊥
none_long net text lines ok read none count words h = none count h.few (listed net text lines count words ok read h).long

as_many : (n count : ℕ) (lines : List (List ℕ)) → length lines ≡ n + 2 → length lines ≡ count + 2 → count ≡ n
as_many n count lines one two = omega (arith, one, two)

-- nor one of other lines before the rows
pub none_headed : (net : NetLists) (text : List ℕ) (lines : List (List ℕ)) (n : ℕ) → IsNet net → IsTextOf text (map phrase lines) → length lines ≡ n + 2
    → (written (phrase (slice_index_or lines 0 []) ∷ phrase (slice_index_or lines 1 []) ∷ []) ≡ written (head_lines net n) → ⊥)
    → (count : ℕ) (words : ℕ → ℕ → List ℕ) → IsListText net text count words → ⊥
none_headed net text lines n ok read long none count words h =
    let is = listed net text lines count words ok read h in
    none (ap written (is.head ∙ ap (head_lines net) (as_many n count lines long is.long)))

-- nor one of other rows
pub none_rows : (net : NetLists) (text : List ℕ) (lines : List (List ℕ)) (n : ℕ) → IsNet net → IsTextOf text (map phrase lines) → length lines ≡ n + 2
    → (((k : ℕ) → 1 ≤ k → k ≤ n → IsRow (length net.transitions) k (row_words lines k)) → ⊥) → (count : ℕ) (words : ℕ → ℕ → List ℕ) → IsListText net text count words → ⊥
none_rows net text lines n ok read long none count words h =
    let is = listed net text lines count words ok read h in
    let all = as_many n count lines long is.long in
    none (λ k o m. subst (IsRow (length net.transitions) k) (sym (is.rows k o (omega (arith, m, all)))) (line_is_row (length net.transitions) k words))

-- the list of rows that are read
pub list_read : (net : NetLists) (text : List ℕ) (lines : List (List ℕ)) (count : ℕ) (dates : List Date) → IsNet net → count < 2 ^ 32 → IsTextOf text (map phrase lines) → length lines ≡ count + 2
    → written (phrase (slice_index_or lines 0 []) ∷ phrase (slice_index_or lines 1 []) ∷ []) ≡ written (head_lines net count) → AreReadRows (length net.transitions) count lines dates → IsReadList net text count dates
list_read net text lines count dates ok few read long head rows = record {
  words = told_word lines;
  list = rows_are_list net text count lines ok few read long head rows.rows;
  whole = rows.whole;
  read = rows.read;
}
