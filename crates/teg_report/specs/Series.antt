-- Series, and what the series calculator refuses: their lines, what they keep, and how they are read back.
use Rattle.std.specs.Prelude.{ℕ, List, [], ◌∷◌, ◌++◌, codes, ◌<◌, length, All, map, drop, take, ◌-◌, if◌then◌else◌, ◌^◌}
use Rattle.std.specs.Fmt.{decimal, signed_decimal}
use Rattle.series_form.specs.declared.forms.SeriesRefused.{SeriesRefused}
use Rattle.series_form.specs.declared.forms.SeriesRefused.TheVariants.{TooLong, TooGreat, OutOfMemory as NoRoom}
use Rattle.teg_calc.specs.declared.refusals.ParseRefused.{ParseRefused}
use Rattle.teg_calc.specs.declared.refusals.ParseRefused.TheVariants.{Syntax, TooDeep, OutOfMemory}
use Rattle.teg_text.specs.Lines.{phrase}
use Rattle.series_laws.specs.SeriesForms.{Form as SeriesForm}
use Rattle.teg_text.specs.WordReading.{word, stands_at, number_in, signed_in, date_of_word}
use Rattle.std.specs.Int.RustNames.{unsigned_abs}
use Rattle.teg_text.specs.ValueWords.{IsDate}
use Rattle.teg_lines.specs.Widths.{IsWord32, IsWord64}

-- where a text is no expression, or too deep; nothing is told of want of memory
abbrev pub parse_line : ParseRefused → List (List ℕ)
parse_line (Syntax at) = phrase (codes "refused: syntax at") ++ decimal at ∷ []
parse_line (TooDeep at) = phrase (codes "refused: too deep at") ++ decimal at ∷ []
parse_line OutOfMemory = []

-- why an operation has no series; nothing is told of want of memory
abbrev pub series_refused_line : SeriesRefused → List (List ℕ)
series_refused_line (TooLong need) = phrase (codes "refused: series needs") ++ decimal need ∷ []
series_refused_line (TooGreat value) = phrase (codes "refused: number") ++ signed_decimal value ∷ []
series_refused_line NoRoom = []

-- the numbers of a series
pub record IsSeriesKept (series : SeriesForm) : Type 0 where
  pub values : All IsDate series.values
  pub period : IsWord64 series.period
  pub step : unsigned_abs series.step < 2 ^ 128

-- what a refusal of a text keeps; it is not its want of memory
abbrev pub IsParseKept : ParseRefused → Type 0
IsParseKept (Syntax at) = IsWord32 at
IsParseKept (TooDeep at) = IsWord32 at
IsParseKept OutOfMemory = ⊥

-- what a refusal of an operation keeps; it is not its want of memory
abbrev pub IsSeriesRefusalKept : SeriesRefused → Type 0
IsSeriesRefusalKept (TooLong need) = need < 2 ^ 128
IsSeriesRefusalKept (TooGreat value) = unsigned_abs value < 2 ^ 128
IsSeriesRefusalKept NoRoom = ⊥

-- a series: behind its values stand four words
abbrev pub series_in : List (List ℕ) → SeriesForm
series_in line = record {
  values = map date_of_word (take (length line - 5) (drop 1 line));
  period = number_in (word (length line - 3) line);
  step = signed_in (word (length line - 1) line);
}

-- where a text is no expression, or too deep
abbrev pub parse_in : List (List ℕ) → ParseRefused
parse_in line = if stands_at 1 line (codes "syntax") then Syntax (number_in (word 3 line)) else TooDeep (number_in (word 4 line))

-- why an operation has no series
abbrev pub series_refused_in : List (List ℕ) → SeriesRefused
series_refused_in line = if stands_at 1 line (codes "series") then TooLong (number_in (word 3 line)) else TooGreat (signed_in (word 2 line))
