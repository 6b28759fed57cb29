-- The line of one date is read whole, and what it tells is compared with a list.
use Rattle.std.proofs.Common.{ℕ, ◌<◌, ◌≤◌, ◌≡◌, ◌≢◌, ◌^◌, ◌↔◌, Bool, true, false, not, IsTrue, Option, Some, None, List, [], ◌∷◌, length, map, get_or, slice_index_or, refl, sym, ap, subst, ◌∙◌, arith, codes}
use Rattle.std.specs.Prelude.{All}
use Rattle.std.specs.Fmt.{decimal}
use Rattle.std.specs.List.{slice_get}
use Rattle.std.specs.Option.{IsSomeAnd}
use Rattle.std.proofs.lemmas.Bool.{and_parts, false≢true, iff_false}
use Rattle.std.proofs.lemmas.List.{get_or-map, length-map}
use Rattle.std.proofs.lemmas.Option.{get_or_from_slice_get, slice_get_within}
use Rattle.dioid.specs.declared.dates.Date.{Date}
use Rattle.teg_net.specs.declared.entries.Transition.{Transition}
use Rattle.teg_net.specs.declared.entries.TransitionId.{TransitionId}
use Rattle.teg_net.specs.Circuits.{IsLive}
use Rattle.teg_net.specs.Nets.{NetLists, IsNet}
use Rattle.teg_model.specs.Datings.{IsLeastDating, listed_releases}
use Rattle.teg_model.specs.LeastDatings.{LeastDatingsExist}
use Rattle.teg_model.proofs.OfNet.{net_ends, only_least}
use Rattle.teg_text.specs.Lines.{are_lines, is_line, is_word, phrase, written}
use Rattle.teg_text.specs.ValueWords.{date_word}
use Rattle.teg_text.specs.WordReading.{number_in}
use Rattle.teg_text.specs.WordsOfNames.{name_of_transition, no_transition, transition_in}
use Rattle.teg_text.proofs.Back.{word32_back}
use Rattle.teg_text.proofs.NamesRead.{transition_back, transition_is_word}
use Rattle.teg_text.proofs.Words.{date_is_word, decimal_is_word}
use Rattle.word_lines.specs.WordLines.{IsTextOf}
use Rattle.word_lines.proofs.Lines.{passes_at, same_lines}
use Rattle.answer_check.specs.declared.date.ShownDate.{ShownDate}
use Rattle.answer_check.specs.DateReading.{AreFiringWords, ComparesDate, FiringWords, IsListedDate, IsSmallWord, ReadsFiring, ReadsFiringWords}
use Rattle.answer_check.specs.ShownDates.{HasRow, IsFiringText, IsOtherDate, IsShownDate, ShowsDate, line_of_firing}
use Rattle.answer_check.specs.ShownLists.{IsListText}
use Rattle.answer_check.specs.ListReading.{IsReadList}
use Rattle.answer_check.proofs.ListLines.{list_is_text, same_words}
use Rattle.answer_check.proofs.ListedRows.{least_date}
use Rattle.answer_check.proofs.ReadDates.{least_is_small}
use Rattle.answer_check.proofs.ReadRows.{least_shown, others_not_shown, shown_is_list, words_of}
use Rattle.dating_certificates.specs.CheckedRows.{AreFirstRows, date_in_rows}
use Rattle.teg_model.specs.DateBounds.{IsDateWithin, greatest_least_date}

-- ---- names

named_here : (net : NetLists) (id : TransitionId) (word : List ℕ) → IsSomeAnd (slice_get net.transitions id.index) (λ (t : Transition). t.name ≡ word)
    → (id.index < length net.transitions) × (name_of_transition net id ≡ word)
named_here net id word h = by_cases (slice_get net.transitions id.index) refl h where
  by_cases : (o : Option Transition) → slice_get net.transitions id.index ≡ o → IsSomeAnd o (λ (t : Transition). t.name ≡ word) → (id.index < length net.transitions) × (name_of_transition net id ≡ word)
  by_cases None e k = absurd k
  by_cases (Some t) e k = (
    slice_get_within net.transitions id.index t e,
    ap (λ (x : Transition). x.name) (get_or_from_slice_get net.transitions id.index t no_transition e) ∙ k,
  )

-- ---- the words of the line

-- four words
four_words : (words : List (List ℕ)) → length words ≡ 4
    → words ≡ slice_index_or words 0 [] ∷ slice_index_or words 1 [] ∷ slice_index_or words 2 [] ∷ slice_index_or words 3 [] ∷ []
four_words [] h = absurd (omega (arith, h))
four_words (a ∷ []) h = absurd (omega (arith, h))
four_words (a ∷ b ∷ []) h = absurd (omega (arith, h))
four_words (a ∷ b ∷ c ∷ []) h = absurd (omega (arith, h))
four_words (a ∷ b ∷ c ∷ d ∷ []) h = refl
four_words (a ∷ b ∷ c ∷ d ∷ e ∷ rest) h = absurd (omega (arith, h))

pub words_are : (net : NetLists) (words : List (List ℕ)) (t : TransitionId) (k : ℕ) → length words ≡ 4 → slice_index_or words 0 [] ≡ codes "date"
    → IsSomeAnd (slice_get net.transitions t.index) (λ (x : Transition). x.name ≡ slice_index_or words 1 []) → k < 2 ^ 32 → slice_index_or words 2 [] ≡ decimal k
    → AreFiringWords net words (record { transition = t; number = k; word = slice_index_or words 3 [] })
words_are net words t k long first named small number =
    let here = named_here net t (slice_index_or words 1 []) named in
    record {
      transition = here.0;
      number = small;
      are = four_words words long ∙ rw (first, sym here.1, number) refl;
    }

pub not_four : (net : NetLists) (words : List (List ℕ)) → length words ≢ 4 → ReadsFiringWords net words None
not_four net words other told h = other (ap (λ (ws : List (List ℕ)). length ws) h.are)

pub not_first : (net : NetLists) (words : List (List ℕ)) → slice_index_or words 0 [] ≢ codes "date" → ReadsFiringWords net words None
not_first net words other told h = other (ap (λ (ws : List (List ℕ)). slice_index_or ws 0 []) h.are)

pub not_named : (net : NetLists) (words : List (List ℕ)) → All (λ (x : Transition). x.name ≢ slice_index_or words 1 []) net.transitions → ReadsFiringWords net words None
not_named net words none told h =
    none told.transition.index no_transition h.transition (sym (ap (λ (ws : List (List ℕ)). slice_index_or ws 1 []) h.are))

pub not_numbered : (net : NetLists) (words : List (List ℕ)) → ((n : ℕ) → n < 2 ^ 32 → slice_index_or words 2 [] ≡ decimal n → ⊥) → ReadsFiringWords net words None
not_numbered net words none told h = none told.number h.number (ap (λ (ws : List (List ℕ)). slice_index_or ws 2 []) h.are)

-- ---- numbers

pub some_small : (word : List ℕ) (n : ℕ) → word ≡ decimal n → n ≤ 4294967295 → IsSmallWord word n
some_small word n told most = record { few = omega (arith, most); told = told }

-- ---- the line

firing_is_line : (net : NetLists) (t : TransitionId) (k : ℕ) (word : List ℕ) → IsNet net → t.index < length net.transitions → is_word word ≡ true → are_lines (line_of_firing net t k word ∷ []) ≡ true
firing_is_line net t k word ok l h = rw (transition_is_word net t ok l, decimal_is_word k, h) refl

pub firing_is_text : (net : NetLists) (text : List ℕ) (t : TransitionId) (k : ℕ) (word : List ℕ) → IsNet net → IsFiringText net text t k word → IsTextOf text (line_of_firing net t k word ∷ [])
firing_is_text net text t k word ok h = record { are = firing_is_line net t k word ok h.transition h.plain; told = h.told }

one_read : (text : List ℕ) (lines : List (List ℕ)) (line : List (List ℕ)) → IsTextOf text (map phrase lines) → IsTextOf text (line ∷ []) → (length lines ≡ 1) × (phrase (slice_index_or lines 0 []) ≡ line)
one_read text lines line read told =
    let same : map phrase lines ≡ line ∷ [] = same_lines text (map phrase lines) (line ∷ []) read told in
    let long : length lines ≡ 1 = sym (length-map lines phrase) ∙ ap (λ (ls : List (List (List ℕ))). length ls) same in
    (long, sym (get_or-map phrase lines 0 [] [] (omega (arith, long))) ∙ ap (λ (ls : List (List (List ℕ))). get_or ls 0 []) same)

-- a text of another number of lines
pub not_one : (net : NetLists) (text : List ℕ) (lines : List (List ℕ)) → IsNet net → IsTextOf text (map phrase lines) → length lines ≢ 1 → ReadsFiring net text None
not_one net text lines ok read other t k word small h = other (one_read text lines (line_of_firing net t k word) read (firing_is_text net text t k word ok h)).0

one_line : (lines : List (List ℕ)) → length lines ≡ 1 → map phrase lines ≡ phrase (slice_index_or lines 0 []) ∷ []
one_line [] h = absurd (omega (arith, h))
one_line (line ∷ []) h = refl
one_line (line ∷ next ∷ rest) h = absurd (omega (arith, h))

last_is_word : (net : NetLists) (t : TransitionId) (k : ℕ) (word : List ℕ) → are_lines (line_of_firing net t k word ∷ []) ≡ true → is_word word ≡ true
last_is_word net t k word h = passes_at is_word (line_of_firing net t k word) 3 [] (and_parts (is_line (line_of_firing net t k word)) true h).0 (omega arith)

-- what is read of the words of the one line is read of the text
pub firing_read : (net : NetLists) (text : List ℕ) (lines : List (List ℕ)) (found : Option FiringWords) → IsNet net → IsTextOf text (map phrase lines) → length lines ≡ 1
    → ReadsFiringWords net (phrase (slice_index_or lines 0 [])) found → ReadsFiring net text found
firing_read net text lines None ok read one none =
    λ t k word small h. none (record { transition = t; number = k; word = word })
    (record { transition = h.transition; number = small; are = (one_read text lines (line_of_firing net t k word) read (firing_is_text net text t k word ok h)).1 })
firing_read net text lines (Some told) ok read one h =
    let same : map phrase lines ≡ line_of_firing net told.transition told.number told.word ∷ [] = one_line lines one ∙ ap (λ (l : List (List ℕ)). l ∷ []) h.are in
    let whole : IsTextOf text (line_of_firing net told.transition told.number told.word ∷ []) = subst (IsTextOf text) same read in
    (h.number, record { transition = h.transition; plain = last_is_word net told.transition told.number told.word whole.are; told = whole.told })

-- one text tells one firing, and one word
pub one_firing : (net : NetLists) (text : List ℕ) (t s : TransitionId) (j k : ℕ) (word other : List ℕ) → IsNet net → j < 2 ^ 32 → k < 2 ^ 32 → IsFiringText net text t j word → IsFiringText net text s k other
    → (t ≡ s) × (j ≡ k) × (word ≡ other)
one_firing net text t s j k word other ok small low one two =
    let same : line_of_firing net t j word ∷ [] ≡ line_of_firing net s k other ∷ [] =
    same_lines text (line_of_firing net t j word ∷ []) (line_of_firing net s k other ∷ []) (firing_is_text net text t j word ok one) (firing_is_text net text s k other ok two) in
    let at : (i : ℕ) → get_or (line_of_firing net t j word) i [] ≡ get_or (line_of_firing net s k other) i [] = λ i. ap (λ (ls : List (List (List ℕ))). get_or (get_or ls 0 []) i []) same in (
      sym (transition_back net t ok one.transition) ∙ (ap (transition_in net) (at 1) ∙ transition_back net s ok two.transition),
      sym (word32_back j small) ∙ (ap number_in (at 2) ∙ word32_back k low),
      at 3,
    )

-- ---- dates

-- what is shown is the text of a firing
pub shown_is_firing : (net : NetLists) (text : List ℕ) (shown : ShownDate) → IsShownDate net text shown → IsFiringText net text shown.transition shown.number (date_word shown.date)
shown_is_firing net text shown h = record { transition = h.transition; plain = date_is_word shown.date; told = h.told }

row_small : (net : NetLists) (list : List ℕ) (k : ℕ) → HasRow net list k → k < 2 ^ 32
row_small net list k row = let few = row.1 in let within = row.3 in omega (arith, few, within)

-- the list is not shown or has no such firing
pub none_compared : (net : NetLists) (list text : List ℕ) (t : TransitionId) (k : ℕ) (word : List ℕ) → IsNet net → (k < 2 ^ 32) × IsFiringText net text t k word → (HasRow net list k → ⊥) → ComparesDate net list text None
none_compared net list text t k word ok read none s j other h row =
    let same = one_firing net text t s k j word other ok read.0 (row_small net list j row) read.1 h in
    none (subst (HasRow net list) (sym same.1) row)

pub no_firing_compared : (net : NetLists) (list text : List ℕ) → ReadsFiring net text None → ComparesDate net list text None
no_firing_compared net list text none t k word h row = none t k word (row_small net list k row) h

-- ---- what is shown and what is refuted

least_of_row : (net : NetLists) (list : List ℕ) (k : ℕ) → HasRow net list k → (x : ℕ → ℕ → Date) × IsLeastDating net x
least_of_row net list k row = (row.4.told.0, row.4.told.1)

pub told_is_shown : (net : NetLists) (list text : List ℕ) (shown : ShownDate) (told : Bool) → ComparesDate net list text (Some (shown, told)) → told ≡ true → ShowsDate net list text (Some shown)
told_is_shown net list text shown told (word, firing, listed, same) is =
    let row = listed.row in
    let some = row.2 in
    let word_is : word ≡ date_word shown.date = same.0 is in (
      row,
      record {
        live = row.4.live;
        transition = firing.transition;
        number = some;
        small = row_small net list shown.number row;
        least = listed.least;
        told = firing.told ∙ ap (λ (w : List ℕ). written (line_of_firing net shown.transition shown.number w ∷ [])) word_is;
      },
    )

pub other_not_shown : (net : NetLists) (list text : List ℕ) (found : ShownDate) (told : Bool) → IsNet net → ComparesDate net list text (Some (found, told)) → told ≡ false → ShowsDate net list text None
other_not_shown net list text found told ok (word, firing, listed, same) not shown row h =
    let one = one_firing net text shown.transition found.transition shown.number found.number (date_word shown.date) word ok (row_small net list shown.number row)
    (row_small net list found.number listed.row) (shown_is_firing net text shown h) firing in
    let least = least_of_row net list shown.number row in
    let there : found.date ≡ least.0 shown.transition.index shown.number =
    listed.least least.0 least.1 ∙ (ap (λ (i : TransitionId). least.0 i.index found.number) (sym one.0) ∙ ap (λ (j : ℕ). least.0 shown.transition.index j) (sym one.1)) in
    iff_false same not (sym one.2 ∙ ap date_word (h.least least.0 least.1 ∙ sym there))

pub none_not_shown : (net : NetLists) (list text : List ℕ) → ComparesDate net list text None → ShowsDate net list text None
none_not_shown net list text none shown row h = none shown.transition shown.number (date_word shown.date) (shown_is_firing net text shown h) row

pub other_is_refuted : (net : NetLists) (list text : List ℕ) (found : ShownDate) (told : Bool) → ComparesDate net list text (Some (found, told)) → told ≡ false → IsOtherDate net list text
other_is_refuted net list text found told (word, firing, listed, same) not =
    (found.transition, found.number, word, listed.row, firing, λ x least is. iff_false same not (is ∙ ap date_word (sym (listed.least x least))))

pub told_not_refuted : (net : NetLists) (list text : List ℕ) (found : ShownDate) (told : Bool) → IsNet net → ComparesDate net list text (Some (found, told)) → told ≡ true → IsOtherDate net list text → ⊥
told_not_refuted net list text found told ok (word, firing, listed, same) is (t, k, other, row, text_is, wrong) =
    let one = one_firing net text t found.transition k found.number other word ok (row_small net list k row) (row_small net list found.number listed.row) text_is firing in
    let least = least_of_row net list k row in
    let there : found.date ≡ least.0 t.index k =
    listed.least least.0 least.1 ∙ (ap (λ (i : TransitionId). least.0 i.index found.number) (sym one.0) ∙ ap (λ (j : ℕ). least.0 t.index j) (sym one.1)) in
    wrong least.0 least.1 (one.2 ∙ (same.0 is ∙ ap date_word there))

pub none_not_refuted : (net : NetLists) (list text : List ℕ) → ComparesDate net list text None → IsOtherDate net list text → ⊥
none_not_refuted net list text none (t, k, other, row, text_is, wrong) = none t k other text_is row

-- ---- the list

pub no_list_row : (net : NetLists) (list : List ℕ) (k : ℕ) → IsNet net → ((count : ℕ) (words : ℕ → ℕ → List ℕ) → IsListText net list count words → ⊥) → HasRow net list k → ⊥
no_list_row net list k ok none row = none row.0 (words_of row.4.told.0) (shown_is_list net list row.0 ok row.1 row.4)

-- a list that is read has no row past its number
pub past_row : (net : NetLists) (list : List ℕ) (n k : ℕ) (dates : List Date) → IsNet net → IsReadList net list n dates → (1 ≤ k → k ≤ n → ⊥) → HasRow net list k → ⊥
past_row net list n k dates ok read none row =
    let as_many = (same_words net list row.0 n (words_of row.4.told.0) read.words (list_is_text net list row.0 (words_of row.4.told.0) ok (shown_is_list net list row.0 ok row.1 row.4))
    (list_is_text net list n read.words ok read.list)).0 in
    let within = row.3 in
    none row.2 (omega (arith, within, as_many))

pub dead_row : (net : NetLists) (list : List ℕ) (k : ℕ) → (IsLive net → ⊥) → HasRow net list k → ⊥
dead_row net list k dead row = dead row.4.live

-- nor has one whose dates are not the least
pub other_rows_row : (net : NetLists) (list : List ℕ) (n k : ℕ) (dates : List Date) → IsNet net → IsReadList net list n dates → (AreFirstRows net dates → ⊥) → HasRow net list k → ⊥
other_rows_row net list n k dates ok read other row = others_not_shown net list n dates ok read other row.0 row.4

-- the date of a row of a list that is shown
pub row_listed : (net : NetLists) (list : List ℕ) (n t k : ℕ) (dates : List Date) (date : Date) → IsNet net → IsLive net → LeastDatingsExist → IsReadList net list n dates → AreFirstRows net dates
    → t < length net.transitions → 1 ≤ k → k ≤ n → date ≡ date_in_rows (length net.transitions) dates t k → IsListedDate net list t k date
row_listed net list n t k dates date ok live exist read first l some within is =
    let least = exist net (net_ends net ok) live (listed_releases net) in
    let few = read.list.few in
    let there : (x : ℕ → ℕ → Date) → IsLeastDating net x → date ≡ x t k = λ x h. is ∙ least_date net dates n ok first read.whole x h t k l some within in
    record {
      row = (n, few, some, within, least_shown net list n dates ok live exist read first);
      within = subst (IsDateWithin greatest_least_date) (sym (there least.0 least.1)) (least_is_small net least.0 ok live least.1 t k l some (omega (arith, few, within)));
      least = there;
    }

-- where another date is told, none is shown
pub other_date_not_shown : (net : NetLists) (list text : List ℕ) → IsNet net → IsOtherDate net list text → (shown : ShownDate) → IsShownDate net text shown → ⊥
other_date_not_shown net list text ok (t, k, word, row, text_is, wrong) shown h =
    let one = one_firing net text t shown.transition k shown.number word (date_word shown.date) ok (row_small net list k row) h.small text_is (shown_is_firing net text shown h) in
    let least = least_of_row net list k row in
    let there : shown.date ≡ least.0 t.index k =
    h.least least.0 least.1 ∙ (ap (λ (i : TransitionId). least.0 i.index shown.number) (sym one.0) ∙ ap (λ (j : ℕ). least.0 t.index j) (sym one.1)) in
    wrong least.0 least.1 (one.2 ∙ ap date_word there)

-- what is not told is another, and what is told is none
pub refuted_by : (A : Type 0) (told : Bool) → (told ≡ false → A) → (told ≡ true → A → ⊥) → IsTrue (not told) ↔ A
refuted_by A true other none = (λ e. absurd (false≢true e), λ a. absurd (none refl a))
refuted_by A false other none = (λ _. other refl, λ _. refl)

-- of a firing that the list has some date is shown, or another is told
pub known_firing : (net : NetLists) (list text : List ℕ) (t : TransitionId) (k : ℕ) (word : List ℕ) → ShowsDate net list text None → (IsOtherDate net list text → ⊥) → IsFiringText net text t k word
    → HasRow net list k → ⊥
known_firing net list text t k word none same firing row =
    same (
      t,
      k,
      word,
      row,
      firing,
      λ x least is.
          none (record { transition = t; number = k; date = x t.index k }) row
          (record {
            live = row.4.live;
            transition = firing.transition;
            number = row.2;
            small = row_small net list k row;
            least = λ y other. only_least net (listed_releases net) x y least other t.index k firing.transition row.2;
            told = firing.told ∙ ap (λ (w : List ℕ). written (line_of_firing net t k w ∷ [])) is;
          }),
    )
