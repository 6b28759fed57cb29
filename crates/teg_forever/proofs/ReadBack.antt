-- An answer is read back from its text.
use Rattle.std.proofs.Common.{ℕ, suc, ◌+◌, ◌-◌, ◌<◌, ◌≡◌, ◌==◌, true, false, List, [], ◌∷◌, ◌++◌, All, length, map, take, drop, get_or, codes, Ok, Err, refl, sym, subst, ap, ◌∙◌, arith}
use Rattle.std.specs.Prelude.{if◌then◌else◌, ⊤}
use Rattle.std.specs.List.{list_all}
use Rattle.std.specs.Fmt.{decimal, signed_decimal}
use Rattle.std.proofs.lemmas.Bool.{and_from}
use Rattle.std.proofs.lemmas.Bool.Decides.{nat_tests}
use Rattle.std.proofs.lemmas.List.{get_or_default, length-append}
use Rattle.dioid.specs.declared.dates.Date.{Date}
use Rattle.dioid.specs.declared.dates.Date.TheVariants.{Early, At, Never}
use Rattle.forever_laws.specs.series_laws.SeriesForms.{Form}
use Rattle.series_form.specs.NumberBounds.{IsSeries, IsSmallDate}
use Rattle.teg_net.specs.Nets.{NetLists, IsNet}
use Rattle.teg_text.specs.Lines.{is_word, is_line, are_lines}
use Rattle.teg_text.specs.WordsOfNames.{name_of_transition, transition_in}
use Rattle.teg_text.specs.WordReading.{lines_in, line_at, word, stands_at, number_in, signed_in, date_of_word}
use Rattle.teg_text.specs.ValueWords.{IsDate, date_word}
use Rattle.teg_text.proofs.Back.{number_back, word32_back, word64_back, signed_back, date_back}
use Rattle.teg_text.proofs.NamesRead.{transition_back, transition_is_word}
use Rattle.teg_text.proofs.Reading.{written_read}
use Rattle.teg_text.proofs.LineBlocks.{before_back, behind_back, map_back, map_passes}
use Rattle.teg_text.proofs.Words.{all_append, decimal_is_word, date_is_word, signed_is_word}
use Rattle.endless_due.specs.declared.refusal.EndlessRefusal.{EndlessRefusal}
use Rattle.endless_due.specs.declared.refusal.EndlessRefusal.TheVariants.{BadRow, UnknownTransition, NotDue, RepeatedDue, OutOfRange, Falls, OutOfMemory as NoRowRoom}
use Rattle.teg_forever.specs.declared.releases.Release.{Release}
use Rattle.teg_forever.specs.declared.releases.Release.TheVariants.{Free, Latest}
use Rattle.teg_forever.specs.declared.releases.ForeverRefusal.{ForeverRefusal}
use Rattle.teg_forever.specs.declared.releases.ForeverRefusal.TheVariants.{Late, TooLong, TooWide, OutOfMemory}
use Rattle.teg_forever.specs.LatestReleases.{inputs_of}
use Rattle.teg_forever.proofs.InputLists.{all_low}
use Rattle.teg_forever.specs.EndlessTexts.{EndlessAnswer, LongFile, UnreadFile, Faulty, Answered, answer_lines, release_line, endless_lines_of}
use Rattle.teg_forever.specs.EndlessTexts.{series_words, IsReleaseTold, IsEndlessTold, TextsOfEndlessDiffer}

-- ---- what is read

abbrev fault_in : List (List ℕ) → EndlessRefusal
fault_in line =
    if stands_at 4 line (codes "is") then BadRow (number_in (word 3 line))
    else if stands_at 4 line (codes "unknown") then UnknownTransition (number_in (word 3 line))
    else if stands_at 4 line (codes "input") then NotDue (number_in (word 3 line))
    else if stands_at 4 line (codes "repeated") then RepeatedDue (number_in (word 3 line))
    else if stands_at 4 line (codes "out") then OutOfRange (number_in (word 3 line))
    else Falls (number_in (word 3 line))

abbrev refusal_in : NetLists → List (List ℕ) → ForeverRefusal
refusal_in net line =
    if stands_at 0 line (codes "late") then Late (transition_in net (word 1 line)) (number_in (word 2 line)) (number_in (word 4 line)) (number_in (word 6 line))
    else if stands_at 4 line (codes "at") then TooWide (transition_in net (word 3 line)) (number_in (word 7 line))
    else TooLong (transition_in net (word 3 line))

abbrev series_in : List (List ℕ) → Form
series_in line = record {
  values = map date_of_word (take (length line - 6) (drop 2 line));
  period = number_in (word (length line - 3) line);
  step = signed_in (word (length line - 1) line);
}

abbrev release_read : List (List ℕ) → Release
release_read line = if length line == 3 then Free else Latest (series_in line)

abbrev file_answer_in : List (List ℕ) → EndlessAnswer
file_answer_in line = if stands_at 1 line (codes "the") then LongFile else Faulty (fault_in line)

abbrev answer_in : NetLists → List (List (List ℕ)) → EndlessAnswer
answer_in net lines =
    if stands_at 0 (line_at 0 lines) (codes "fault:") then UnreadFile
    else if stands_at 0 (line_at 0 lines) (codes "refused:") then file_answer_in (line_at 0 lines)
    else if stands_at 0 (line_at 0 lines) (codes "latest") then Answered (Ok (map release_read (drop 1 lines)))
    else Answered (Err (refusal_in net (line_at 0 lines)))

-- ---- series

small_is_date : (d : Date) → IsSmallDate d → IsDate d
small_is_date Early h = tt
small_is_date (At t) h = omega (arith, h)
small_is_date Never h = tt

abbrev told_values : Form → List (List ℕ)
told_values f = map date_word f.values

abbrev told_numbers : Form → List (List ℕ)
told_numbers f = codes "period" ∷ decimal f.period ∷ codes "step" ∷ signed_decimal f.step ∷ []

abbrev told_line : List ℕ → Form → List (List ℕ)
told_line name f = codes "input" ∷ name ∷ series_words f

long_line : (name : List ℕ) (f : Form) → length (told_line name f) ≡ length (told_values f) + 6
long_line name f = let n : length (told_values f ++ told_numbers f) ≡ length (told_values f) + 4 = length-append (told_values f) (told_numbers f) in omega (arith, n)

series_back : (name : List ℕ) (f : Form) → IsSeries f → series_in (told_line name f) ≡ f
series_back name f h =
    let n = long_line name f in
    let dates : All IsDate f.values = λ i d l. subst IsDate (get_or_default f.values i Early d l) (small_is_date (get_or f.values i Early) (h.small.values i)) in
    let first : length (told_line name f) - 6 ≡ length (told_values f) = omega (arith, n) in
    let third : length (told_line name f) - 3 ≡ suc (suc (length (told_values f) + 1)) = omega (arith, n) in
    let last : length (told_line name f) - 1 ≡ suc (suc (length (told_values f) + 3)) = omega (arith, n) in
    let values : map date_of_word (take (length (told_line name f) - 6) (told_values f ++ told_numbers f)) ≡ f.values =
    ap (λ (k : ℕ). map date_of_word (take k (told_values f ++ told_numbers f))) first
    ∙ (ap (map date_of_word) (before_back (told_values f) (told_numbers f)) ∙ map_back IsDate date_word date_of_word date_back f.values dates) in
    let period : number_in (get_or (told_line name f) (length (told_line name f) - 3) []) ≡ f.period =
    ap (λ (k : ℕ). number_in (get_or (told_line name f) k [])) third
    ∙ (ap number_in (behind_back (told_values f) (told_numbers f) 1 []) ∙ word64_back f.period (omega (arith, h.canonical.form.period_fits, h.short))) in
    let step : signed_in (get_or (told_line name f) (length (told_line name f) - 1) []) ≡ f.step =
    ap (λ (k : ℕ). signed_in (get_or (told_line name f) k [])) last
    ∙ (ap signed_in (behind_back (told_values f) (told_numbers f) 3 []) ∙ signed_back f.step (omega (arith, h.small.step))) in
    λ i. record { values = values i; period = period i; step = step i }

-- ---- releases

not_three : (m n : ℕ) → m ≡ n + 6 → (m == 3) ≡ false
not_three m n h = grind (arith, nat_tests)

release_back : (net : NetLists) (u : ℕ) (r : Release) → IsReleaseTold r → release_read (release_line net u r) ≡ r
release_back net u Free h = refl
release_back net u (Latest f) h = rw (not_three (length (told_line (name_of_transition net (record { index = u })) f))
    (length (told_values f)) (long_line (name_of_transition net (record { index = u })) f))
    (ap Latest (series_back (name_of_transition net (record { index = u })) f h))

release_passes : (net : NetLists) (u : ℕ) (r : Release) → IsNet net → u < length net.transitions → is_line (release_line net u r) ≡ true
release_passes net u Free rules h = rw (transition_is_word net (record { index = u }) rules h) refl
release_passes net u (Latest f) rules h =
    rw (transition_is_word net (record { index = u }) rules h)
    (all_append is_word (told_values f) (told_numbers f)
    (map_passes (λ (d : Date). ⊤) is_word date_word (λ d _. date_is_word d) f.values (λ i d l. tt))
    (rw (decimal_is_word f.period, signed_is_word f.step) refl))

at_first : (releases : List Release) (r : Release) → All IsReleaseTold (r ∷ releases) → IsReleaseTold r × All IsReleaseTold releases
at_first releases r h = (h 0 r (omega arith), λ k d w. h (suc k) d (omega (arith, w)))

releases_back : (net : NetLists) (ts : List ℕ) (releases : List Release) → length releases ≡ length ts → All IsReleaseTold releases → map release_read (endless_lines_of net ts releases) ≡ releases
releases_back net [] [] e h = refl
releases_back net [] (r ∷ releases) e h = absurd (omega arith)
releases_back net (t ∷ ts) [] e h = absurd (omega arith)
releases_back net (t ∷ ts) (r ∷ releases) e h =
    let parts = at_first releases r h in
    ap (λ (x : Release). x ∷ map release_read (endless_lines_of net ts releases)) (release_back net t r parts.0)
    ∙ ap (λ (l : List Release). r ∷ l) (releases_back net ts releases (omega arith) parts.1)

first_low : (n : ℕ) (ts : List ℕ) (t : ℕ) → All (λ u. u < n) (t ∷ ts) → (t < n) × All (λ u. u < n) ts
first_low n ts t h = (h 0 t (omega arith), λ k d w. h (suc k) d (omega (arith, w)))

lines_pass : (net : NetLists) → IsNet net → (ts : List ℕ) (releases : List Release) → All (λ u. u < length net.transitions) ts → list_all is_line (endless_lines_of net ts releases) ≡ true
lines_pass net rules [] releases h = refl
lines_pass net rules (t ∷ ts) [] h = refl
lines_pass net rules (t ∷ ts) (r ∷ releases) h =
    let parts = first_low (length net.transitions) ts t h in
    and_from _ _ (release_passes net t r rules parts.0) (lines_pass net rules ts releases parts.1)

-- ---- answers

record IsRead (net : NetLists) (a : EndlessAnswer) : Type 0 where
  words : are_lines (answer_lines net a) ≡ true
  back : answer_in net (answer_lines net a) ≡ a

is_read : (net : NetLists) → IsNet net → All (λ u. u < length net.transitions) (inputs_of net) → (a : EndlessAnswer) → IsEndlessTold net a → IsRead net a
is_read net rules low LongFile h = record { words = refl; back = refl }
is_read net rules low UnreadFile h = record { words = refl; back = refl }
is_read net rules low (Faulty (BadRow row)) h = record { words = rw (decimal_is_word row) refl; back = rw (word32_back row h) refl }
is_read net rules low (Faulty (UnknownTransition row)) h = record { words = rw (decimal_is_word row) refl; back = rw (word32_back row h) refl }
is_read net rules low (Faulty (NotDue row)) h = record { words = rw (decimal_is_word row) refl; back = rw (word32_back row h) refl }
is_read net rules low (Faulty (RepeatedDue row)) h = record { words = rw (decimal_is_word row) refl; back = rw (word32_back row h) refl }
is_read net rules low (Faulty (OutOfRange row)) h = record { words = rw (decimal_is_word row) refl; back = rw (word32_back row h) refl }
is_read net rules low (Faulty (Falls row)) h = record { words = rw (decimal_is_word row) refl; back = rw (word32_back row h) refl }
is_read net rules low (Faulty NoRowRoom) h = absurd h
is_read net rules low (Answered (Ok releases)) h = record {
  words = lines_pass net rules (inputs_of net) releases low;
  back = ap (λ (l : List Release). Answered (Ok l)) (releases_back net (inputs_of net) releases h.0 h.1);
}
is_read net rules low (Answered (Err (Late t number due least))) h = record {
  words = rw (transition_is_word net t rules h.transition, decimal_is_word number, decimal_is_word due, decimal_is_word least) refl;
  back = rw (transition_back net t rules h.transition, number_back number (omega (arith, h.number_in)), number_back due (omega (arith, h.due_in)), number_back least (omega (arith, h.least_in))) refl;
}
is_read net rules low (Answered (Err (TooLong u))) h = record {
  words = rw (transition_is_word net u rules h) refl;
  back = rw (transition_back net u rules h) refl;
}
is_read net rules low (Answered (Err (TooWide u row))) h = record {
  words = rw (transition_is_word net u rules h.transition, decimal_is_word row) refl;
  back = rw (transition_back net u rules h.transition, word32_back row h.row_in) refl;
}
is_read net rules low (Answered (Err OutOfMemory)) h = absurd h

pub texts_differ : TextsOfEndlessDiffer
texts_differ net rules a b h k e =
    let low = all_low net (length net.transitions) (length net.transitions) (omega arith) in
    let one = is_read net rules low a h in
    let two = is_read net rules low b k in
    let lines : answer_lines net a ≡ answer_lines net b = sym (written_read (answer_lines net a) one.words) ∙ ap lines_in e ∙ written_read (answer_lines net b) two.words in
    sym one.back ∙ ap (answer_in net) lines ∙ two.back
