-- The line of a series.
use Rattle.std.specs.Prelude.{ℕ, List, [], ◌∷◌, ◌++◌, map, codes}
use Rattle.std.specs.Fmt.{decimal, signed_decimal}
use Rattle.series_ops.specs.series_laws.SeriesForms.{Form}
use Rattle.teg_text.specs.ValueWords.{date_word}

-- the word `series`, the values of the list, the period and the step
abbrev pub series_line : Form → List (List ℕ)
series_line f =
    codes "series" ∷ (map date_word f.values ++ (codes "period" ∷ decimal f.period ∷ codes "step" ∷ signed_decimal f.step ∷ []))
