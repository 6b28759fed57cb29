-- The lines of a table of latest dates, and what is read from them.
use Rattle.std.proofs.Common.{ℕ, zero, suc, ◌+◌, ◌-◌, ◌*◌, ◌/◌, ◌%◌, ◌^◌, ◌<◌, ◌≤◌, ◌≡◌, Bool, true, List, [], ◌∷◌, length, map, drop, get_or, slice_index_or, refl, sym, ap, subst, ◌∙◌, arith, ⊎_elim}
use Rattle.std.specs.Fmt.{decimal}
use Rattle.std.specs.List.{flat_map, list_all, range_with_len}
use Rattle.std.proofs.Math.Nat.{div-lt_iff_lt-mul, mod-lt, mul-div_cancel, mul-le-mul_right, mul-mod_left}
use Rattle.std.proofs.lemmas.Bool.{and_parts, cases_lt}
use Rattle.std.proofs.lemmas.List.{ext_get_or, get_or-map, length-append, length-map}
use Rattle.std.proofs.lemmas.List.FromFn.{length-map-range_with_len}
use Rattle.std.proofs.lemmas.Nat.{div-add-mod'}
use Rattle.teg_net.specs.Nets.{NetLists, IsNet}
use Rattle.teg_text.specs.Lines.{are_lines, is_line, is_word, phrase, written}
use Rattle.teg_text.specs.WordReading.{lines_in, number_in}
use Rattle.teg_text.specs.WordsOfNames.{name_of_transition, no_transition}
use Rattle.teg_text.proofs.Back.{number_back}
use Rattle.teg_text.proofs.LineBlocks.{flat_passes, positive_width, range_all}
use Rattle.teg_text.proofs.NamesRead.{transition_is_word}
use Rattle.teg_text.proofs.Reading.{written_read}
use Rattle.teg_text.proofs.Words.{decimal_is_word}
use Rattle.word_lines.specs.WordLines.{IsTextOf}
use Rattle.word_lines.proofs.Lines.{passes_at, range_passes, same_lines}
use Rattle.dating_check.specs.ShownTables.{role_told}
use Rattle.dating_check.specs.TableReading.{AreTableLines, IsFiringLine, line_words, words_behind}
use Rattle.dating_check.specs.TableTexts.{IsTableText, line_of_words, table_head, table_of_words}
use Rattle.dating_check.proofs.TableWords.{grid_at, role_is_word}

-- ---- the lines have words without blanks

line_is_line : (net : NetLists) (words : ℕ → ℕ → List (List ℕ)) (t k : ℕ) → IsNet net → t < length net.transitions → list_all is_word (words t k) ≡ true → is_line (line_of_words net words t k) ≡ true
line_is_line net words t k ok l are = rw (role_is_word (slice_index_or net.transitions t no_transition).role, transition_is_word net (record { index = t }) ok l, decimal_is_word k) are

pub table_are_lines : (net : NetLists) (numbers : ℕ) (words : ℕ → ℕ → List (List ℕ)) → IsNet net
    → ((t k : ℕ) → t < length net.transitions → 1 ≤ k → k ≤ numbers → list_all is_word (words t k) ≡ true) → are_lines (table_of_words net numbers words) ≡ true
table_are_lines net numbers words ok are =
    let width : ℕ = length net.transitions in
    rw (decimal_is_word numbers)
    (flat_passes (λ (t : ℕ). t < width) is_line (λ t. map (line_of_words net words t) (range_with_len 1 numbers))
    (λ t l. range_passes is_line (line_of_words net words t) 1 numbers (λ k o m. line_is_line net words t k ok l (are t k l o (omega (arith, m)))))
    (range_with_len 0 width) (range_all (λ t. t < width) width (λ t l. l)))

pub table_is_text : (net : NetLists) (text : List ℕ) (numbers : ℕ) (words : ℕ → ℕ → List (List ℕ)) → IsNet net → IsTableText net text numbers words → IsTextOf text (table_of_words net numbers words)
table_is_text net text numbers words ok h = record { are = table_are_lines net numbers words ok h.are; told = h.told }

pub head_is_line : (numbers : ℕ) → are_lines (table_head numbers ∷ []) ≡ true
head_is_line numbers = rw (decimal_is_word numbers) refl

-- ---- cells

-- how many cells there are
grid_length : {L : Type 0} (f : ℕ → ℕ → L) (a width count : ℕ) → length (flat_map (λ t. map (f t) (range_with_len 1 count)) (range_with_len a width)) ≡ width * count
grid_length f a zero count = omega arith
grid_length f a (suc width) count =
    let row = map (f a) (range_with_len 1 count) in
    let rest = flat_map (λ t. map (f t) (range_with_len 1 count)) (range_with_len (a + 1) width) in
    let below : length rest ≡ width * count = grid_length f (a + 1) width count in
    let one : length row ≡ count = length-map-range_with_len (f a) 1 count in
    length-append row rest ∙ (let product : suc width * count ≡ count + width * count = grind arith in omega (arith, below, one, product))

table_length : (net : NetLists) (numbers : ℕ) (words : ℕ → ℕ → List (List ℕ)) → length (table_of_words net numbers words) ≡ 1 + length net.transitions * numbers
table_length net numbers words = (let cells = grid_length (line_of_words net words) 0 (length net.transitions) numbers in omega (arith, cells))

-- the line of a firing
table_at : (net : NetLists) (numbers : ℕ) (words : ℕ → ℕ → List (List ℕ)) (t k : ℕ) → t < length net.transitions → 1 ≤ k → k ≤ numbers
    → get_or (table_of_words net numbers words) (1 + (t * numbers + (k - 1))) [] ≡ line_of_words net words t k
table_at net numbers words t k l o m =
    let again : k - 1 + 1 ≡ k = omega (arith, o) in
    let own : 0 + t ≡ t = omega arith in
    let next : 1 + (t * numbers + (k - 1)) ≡ suc (t * numbers + (k - 1)) = omega arith in
    ap (λ (i : ℕ). get_or (table_of_words net numbers words) i []) next
    ∙ (grid_at (line_of_words net words) 0 (length net.transitions) numbers t (k - 1) [] l (omega (arith, o, m))
    ∙ (ap (λ (j : ℕ). line_of_words net words (0 + t) j) again ∙ ap (λ (j : ℕ). line_of_words net words j k) own))

-- ---- two tables of one text

-- tables of one text go up to one number, and have the same words
pub same_tables : (net : NetLists) (text : List ℕ) (a b : ℕ) (u v : ℕ → ℕ → List (List ℕ)) → a < 10 ^ 64 → b < 10 ^ 64
    → IsTextOf text (table_of_words net a u) → IsTextOf text (table_of_words net b v)
    → (a ≡ b) × ((t k : ℕ) → t < length net.transitions → 1 ≤ k → k ≤ a → u t k ≡ v t k)
same_tables net text a b u v few many one two =
    let lines : table_of_words net a u ≡ table_of_words net b v = same_lines text (table_of_words net a u) (table_of_words net b v) one two in
    let as_many : a ≡ b = sym (number_back a few) ∙ (ap (λ (ls : List (List (List ℕ))). number_in (get_or (get_or ls 0 []) 3 [])) lines ∙ number_back b many) in (
      as_many,
      λ t k l o m.
          let here : 1 + (t * a + (k - 1)) ≡ 1 + (t * b + (k - 1)) = ap (λ (n : ℕ). 1 + (t * n + (k - 1))) as_many in
          let line : line_of_words net u t k ≡ line_of_words net v t k =
          sym (table_at net a u t k l o m)
          ∙ (ap (λ (ls : List (List (List ℕ))). get_or ls (1 + (t * a + (k - 1))) []) lines
          ∙ (ap (λ (i : ℕ). get_or (table_of_words net b v) i []) here ∙ table_at net b v t k l o (omega (arith, m, as_many)))) in
          ap (λ (ws : List (List ℕ)). drop 3 ws) line,
    )

-- ---- from lines to the table

-- the words of a line are its role, its name, its number and what is told behind them
line_again : (role name : List ℕ) (k : ℕ) (words : List (List ℕ)) → IsFiringLine role name k words → words ≡ role ∷ name ∷ decimal k ∷ drop 3 words
line_again role name k [] h = absurd (omega (arith, h.long))
line_again role name k (a ∷ []) h = absurd (omega (arith, h.long))
line_again role name k (a ∷ b ∷ []) h = absurd (omega (arith, h.long))
line_again role name k (a ∷ b ∷ c ∷ words) h =
    let one : a ≡ role = h.role_is in
    let two : b ≡ name = h.name_is in
    let three : c ≡ decimal k = h.number_is in
    rw (one, two, three) refl

-- lines that are those of a table, behind its first
lines_again : (net : NetLists) (numbers : ℕ) (lines : List (List ℕ)) → length lines ≡ 1 + length net.transitions * numbers → phrase (slice_index_or lines 0 []) ≡ table_head numbers
    → AreTableLines net lines numbers → map phrase lines ≡ table_of_words net numbers (words_behind lines numbers)
lines_again net numbers lines long head each =
    let width : ℕ = length net.transitions in
    let words = words_behind lines numbers in
    let as_long = table_length net numbers words in
    ext_get_or [] (map phrase lines) (table_of_words net numbers words) (length-map lines phrase ∙ (long ∙ sym as_long)) (at width words) where
      at : (width : ℕ) (words : ℕ → ℕ → List (List ℕ)) (i : ℕ) → i < length (map phrase lines) → get_or (map phrase lines) i [] ≡ get_or (table_of_words net numbers (words_behind lines numbers)) i []
      at width words zero l = get_or-map phrase lines 0 [] [] (rw (length-map lines phrase) at l) ∙ head
      at width words (suc i) l =
          let here : suc i < length lines = rw (length-map lines phrase) at l in
          let low : i < length net.transitions * numbers = omega (arith, here, long) in
          let some : 0 < numbers = positive_width i (length net.transitions) numbers low in
          let t : ℕ = i / numbers in
          let k : ℕ = i % numbers + 1 in
          let t_in : t < length net.transitions = (div-lt_iff_lt-mul some).1 low in
          let k_in : i % numbers < numbers = mod-lt i some in
          let back : 1 + (t * numbers + (k - 1)) ≡ suc i = (let whole = div-add-mod' i numbers in omega (arith, whole)) in
          get_or-map phrase lines (suc i) [] [] here
          ∙ (ap (λ (j : ℕ). phrase (get_or lines j [])) (sym back)
          ∙ (line_again (role_told (slice_index_or net.transitions t no_transition).role) (name_of_transition net (record { index = t })) k (line_words lines numbers t k) (each t t_in k (omega arith) (omega (arith, k_in)))
          ∙ (sym (table_at net numbers (words_behind lines numbers) t k t_in (omega arith) (omega (arith, k_in)))
          ∙ ap (λ (j : ℕ). get_or (table_of_words net numbers (words_behind lines numbers)) j []) back)))

drop_passes : (test : List ℕ → Bool) (n : ℕ) (xs : List (List ℕ)) → list_all test xs ≡ true → list_all test (drop n xs) ≡ true
drop_passes test zero xs h = h
drop_passes test (suc n) [] h = refl
drop_passes test (suc n) (x ∷ xs) h = drop_passes test n xs (and_parts (test x) (list_all test xs) h).1

line_all : (words : List (List ℕ)) → is_line words ≡ true → list_all is_word words ≡ true
line_all [] h = refl
line_all (word ∷ words) h = h

-- where a line stands, within the lines
cell_within : (width numbers t k : ℕ) → t < width → 1 ≤ k → k ≤ numbers → 1 + (t * numbers + (k - 1)) < 1 + width * numbers
cell_within width numbers t k l o m =
    let rows : (t + 1) * numbers ≤ width * numbers = mul-le-mul_right numbers (omega (arith, l)) in
    let more : (t + 1) * numbers ≡ t * numbers + numbers = grind arith in
    omega (arith, rows, more, o, m)

-- the first line, from its text
head_same : (numbers : ℕ) (lines : List (List ℕ)) → 1 ≤ length lines → are_lines (map phrase lines) ≡ true
    → written (phrase (slice_index_or lines 0 []) ∷ []) ≡ written (table_head numbers ∷ []) → phrase (slice_index_or lines 0 []) ≡ table_head numbers
head_same numbers lines some are same =
    let first : is_line (phrase (slice_index_or lines 0 [])) ≡ true = subst (λ (ws : List (List ℕ)). is_line ws ≡ true) (get_or-map phrase lines 0 [] [] some)
    (passes_at is_line (map phrase lines) 0 [] are (omega (arith, some, length-map lines phrase))) in
    let one : are_lines (phrase (slice_index_or lines 0 []) ∷ []) ≡ true = rw first refl in
    ap (λ (ls : List (List (List ℕ))). get_or ls 0 []) (sym (written_read (phrase (slice_index_or lines 0 []) ∷ []) one) ∙ (ap lines_in same ∙ written_read (table_head numbers ∷ []) (head_is_line numbers)))

-- such lines are a table
pub table_read : (net : NetLists) (text : List ℕ) (numbers : ℕ) (lines : List (List ℕ)) → IsNet net → numbers < 2 ^ 32 → IsTextOf text (map phrase lines) → length lines ≡ 1 + length net.transitions * numbers
    → written (phrase (slice_index_or lines 0 []) ∷ []) ≡ written (table_head numbers ∷ []) → AreTableLines net lines numbers → IsTableText net text numbers (words_behind lines numbers)
table_read net text numbers lines ok few read long head each = record {
  few = few;
  are = λ t k l o m.
      let here : 1 + (t * numbers + (k - 1)) < length lines = (let low = cell_within (length net.transitions) numbers t k l o m in omega (arith, low, long)) in
      let line : is_line (line_words lines numbers t k) ≡ true = subst (λ (ws : List (List ℕ)). is_line ws ≡ true) (get_or-map phrase lines (1 + (t * numbers + (k - 1))) [] [] here)
      (passes_at is_line (map phrase lines) (1 + (t * numbers + (k - 1))) [] read.are (omega (arith, here, length-map lines phrase))) in
      drop_passes is_word 3 (line_words lines numbers t k) (line_all (line_words lines numbers t k) line);
  told = read.told ∙ ap written (lines_again net numbers lines long (head_same numbers lines (omega (arith, long)) read.are head) each);
}

-- ---- from the table to its lines

-- lines of which these are the words
pub record IsTabled (net : NetLists) (numbers : ℕ) (lines : List (List ℕ)) : Type 0 where
  pub long : length lines ≡ 1 + length net.transitions * numbers
  pub head : phrase (slice_index_or lines 0 []) ≡ table_head numbers
  pub each : AreTableLines net lines numbers

pub tabled : (net : NetLists) (text : List ℕ) (numbers : ℕ) (words : ℕ → ℕ → List (List ℕ)) (lines : List (List ℕ)) → IsNet net → IsTextOf text (map phrase lines) → IsTableText net text numbers words
    → IsTabled net numbers lines
tabled net text numbers words lines ok read h =
    let is : map phrase lines ≡ table_of_words net numbers words = same_lines text (map phrase lines) (table_of_words net numbers words) read (table_is_text net text numbers words ok h) in
    let long : length lines ≡ 1 + length net.transitions * numbers = sym (length-map lines phrase) ∙ (ap (λ (ls : List (List (List ℕ))). length ls) is ∙ table_length net numbers words) in
    let at : (i : ℕ) → i < length lines → phrase (get_or lines i []) ≡ get_or (table_of_words net numbers words) i [] = λ i l. sym (get_or-map phrase lines i [] [] l) ∙ ap (λ (ls : List (List (List ℕ))). get_or ls i []) is in
    record {
      long = long;
      head = at 0 (omega (arith, long));
      each = λ t l k o m.
          let here : 1 + (t * numbers + (k - 1)) < length lines = (let low = cell_within (length net.transitions) numbers t k l o m in omega (arith, low, long)) in
          let line : line_words lines numbers t k ≡ line_of_words net words t k = at (1 + (t * numbers + (k - 1))) here ∙ table_at net numbers words t k l o m in
          rw line (record { long = omega arith; role_is = refl; name_is = refl; number_is = refl });
    }

-- a text of another number of lines is no table
pub none_long : (net : NetLists) (text : List ℕ) (lines : List (List ℕ)) → IsNet net → IsTextOf text (map phrase lines)
    → ((numbers : ℕ) → numbers < 2 ^ 32 → length lines ≡ 1 + length net.transitions * numbers → ⊥) → (numbers : ℕ) (words : ℕ → ℕ → List (List ℕ)) → IsTableText net text numbers words → ⊥
none_long net text lines ok read none numbers words h = none numbers h.few (tabled net text numbers words lines ok read h).long

as_many : (width a b : ℕ) → 1 ≤ width → 1 + width * a ≡ 1 + width * b → b ≡ a
as_many width a b some e =
    ⊎_elim
    (λ (l : a < b). let more : (a + 1) * width ≤ b * width = mul-le-mul_right width (omega (arith, l)) in
    let x : (a + 1) * width ≡ width * a + width = grind arith in let y : b * width ≡ width * b = grind arith in absurd (omega (arith, more, x, y, e, some)))
    (λ (l : b ≤ a).
    ⊎_elim
    (λ (m : b < a). let more : (b + 1) * width ≤ a * width = mul-le-mul_right width (omega (arith, m)) in
    let x : (b + 1) * width ≡ width * b + width = grind arith in let y : a * width ≡ width * a = grind arith in absurd (omega (arith, more, x, y, e, some)))
    (λ (m : a ≤ b). omega (arith, l, m))
    (cases_lt b a))
    (cases_lt a b)

-- nor one with another first line
pub none_headed : (net : NetLists) (text : List ℕ) (lines : List (List ℕ)) (n : ℕ) → IsNet net → IsTextOf text (map phrase lines) → length lines ≡ 1 + length net.transitions * n
    → (written (phrase (slice_index_or lines 0 []) ∷ []) ≡ written (table_head n ∷ []) → ⊥) → (numbers : ℕ) (words : ℕ → ℕ → List (List ℕ)) → IsTableText net text numbers words → ⊥
none_headed net text lines n ok read long none numbers words h =
    let is = tabled net text numbers words lines ok read h in
    let same : numbers ≡ n = as_many (length net.transitions) n numbers ok.some_transition (sym long ∙ is.long) in
    none (ap (λ (ws : List (List ℕ)). written (ws ∷ [])) (is.head ∙ ap table_head same))

-- nor one with other lines
pub none_lines : (net : NetLists) (text : List ℕ) (lines : List (List ℕ)) (n : ℕ) → IsNet net → IsTextOf text (map phrase lines) → length lines ≡ 1 + length net.transitions * n
    → (AreTableLines net lines n → ⊥) → (numbers : ℕ) (words : ℕ → ℕ → List (List ℕ)) → IsTableText net text numbers words → ⊥
none_lines net text lines n ok read long none numbers words h =
    let is = tabled net text numbers words lines ok read h in
    let same : numbers ≡ n = as_many (length net.transitions) n numbers ok.some_transition (sym long ∙ is.long) in
    none (subst (AreTableLines net lines) same is.each)

-- ---- how many numbers so many lines tell

-- behind the first nothing is left over, and so many fit
pub lines_fit : (lines width n : ℕ) → 1 ≤ width → lines ≡ 1 + width * n → ((lines - 1) % width ≡ 0) × ((lines - 1) / width ≡ n)
lines_fit lines width n some e =
    let cells : lines - 1 ≡ n * width = (let turned : width * n ≡ n * width = grind arith in omega (arith, e, turned)) in
    (rw cells (mul-mod_left n width), rw cells (mul-div_cancel n some))
