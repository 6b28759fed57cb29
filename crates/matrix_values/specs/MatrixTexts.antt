-- The text of a matrix of dates: a line for each row, and in it each entry behind a blank.
use Rattle.std.specs.Prelude.{ℕ, zero, suc, List, [], ◌∷◌, ◌++◌}
use Rattle.dioid.specs.declared.dates.Date.{Date}
use Rattle.dioid_matrix.specs.Tables.{Table}
use Rattle.dioid_spectra.specs.Eigenvectors.{entry_at}
use Rattle.teg_text.specs.ValueWords.{date_word}

-- the first n entries of row i, each behind a blank
abbrev pub entries_told : Table Date → ℕ → ℕ → List ℕ
entries_told a i zero = []
entries_told a i (suc n) = entries_told a i n ++ 32 ∷ date_word (entry_at a i n)

-- the first m rows, each with a line feed behind it
abbrev pub rows_told : Table Date → ℕ → List ℕ
rows_told a zero = []
rows_told a (suc m) = rows_told a m ++ (entries_told a m a.columns ++ 10 ∷ [])

-- all rows
abbrev pub matrix_words : Table Date → List ℕ
matrix_words a = rows_told a a.rows
