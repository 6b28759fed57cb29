-- A list of dates: its lines, and how it is read back.
use Rattle.std.specs.Prelude.{ℕ, ◌≡◌, ◌≤◌, List, [], ◌∷◌, ◌++◌, length, map, codes, ◌*◌, drop}
use Rattle.std.specs.Fmt.{decimal}
use Rattle.std.specs.List.{flat_map, range_with_len}
use Rattle.dioid.specs.declared.dates.Date.{Date}
use Rattle.teg_net.specs.Nets.{NetLists}
use Rattle.date_rows.specs.Passes.{IsRowOf}
use Rattle.teg_text.specs.Lines.{line_then, written}
use Rattle.teg_text.specs.ValueWords.{date_word}
use Rattle.date_rows.specs.DateTables.{TableDates}
use Rattle.teg_text.specs.WordReading.{line_at, word, number_in, date_of_word}
use Rattle.teg_text.specs.LineBlocks.{cell_in}

-- the date of firing k of transition t
abbrev pub dated_firing : (ℕ → ℕ → Date) → ℕ → ℕ → List ℕ
dated_firing x k t = date_word (x t k)

-- the line of number k: the number, and the dates of the firings of that number of the first transitions, so many as are named
abbrev pub number_line : ℕ → (ℕ → ℕ → Date) → ℕ → List (List ℕ)
number_line width x k = decimal k ∷ map (dated_firing x k) (range_with_len 0 width)

-- how many numbers are listed
abbrev pub listed_count_line : ℕ → List (List ℕ)
listed_count_line count = codes "dates" ∷ codes "of" ∷ decimal count ∷ codes "firings" ∷ []

-- the names of the transitions
abbrev pub names_line : NetLists → List (List ℕ)
names_line net = codes "transition" ∷ map (λ t. t.name) net.transitions

-- the dates that x gives to the firings of the numbers 1 to count, one line for each number
abbrev pub list_lines : NetLists → (ℕ → ℕ → Date) → ℕ → List (List (List ℕ))
list_lines net x count =
    listed_count_line count ∷ names_line net ∷ map (number_line (length net.transitions) x) (range_with_len 1 count)

-- the first two lines of a list of so many numbers
abbrev pub head_text : NetLists → ℕ → List ℕ
head_text net count = line_then (listed_count_line count) (line_then (names_line net) [])

-- the line of a number with these dates of its firings
abbrev pub row_text : ℕ → List Date → List ℕ
row_text number row = line_then (decimal number ∷ map date_word row) []

-- the head and the rows of the numbers 1 to count, one after another, are the lines of the list
abbrev pub ListsAreJoined : Type 0
ListsAreJoined = (net : NetLists) (x : ℕ → ℕ → Date) (count : ℕ) (rows : ℕ → List Date)
    → ((k : ℕ) → 1 ≤ k → k ≤ count → IsRowOf net x k (rows k))
    → head_text net count ++ flat_map (λ k. row_text k (rows k)) (range_with_len 1 count) ≡ written (list_lines net x count)

-- a list of dates
abbrev pub table_in : NetLists → List (List (List ℕ)) → TableDates
table_in net lines = record {
  width = length net.transitions;
  count = number_in (word 2 (line_at 0 lines));
  dates = map (λ i. date_of_word (cell_in (length net.transitions) i [] (drop 2 lines))) (range_with_len 0 (number_in (word 2 (line_at 0 lines)) * length net.transitions));
}
