-- The line of a series, piece by piece.
use Rattle.std.proofs.Common.{◌≡◌, ap, sym, ◌∙◌, ℕ, ℤ, List, [], ◌∷◌, ◌++◌, codes, append_assoc}
use Rattle.std.specs.List.{flat_map}
use Rattle.std.specs.Fmt.{decimal, signed_decimal}
use Rattle.dioid.specs.declared.dates.Date.{Date}
use Rattle.series_ops.specs.series_laws.SeriesForms.{form_with}
use Rattle.teg_text.specs.Lines.{written}
use Rattle.teg_text.specs.ValueWords.{date_word}
use Rattle.teg_text.proofs.Joining.{further_both}
use Rattle.teg_calc.specs.Printing.{series_line}

-- the line is the word, the dates, and the period and the step
pub line_is : (values : List Date) (period : ℕ) (step : ℤ)
    → (codes "series" ++ flat_map (λ date. 32 ∷ date_word date) values) ++ (codes
    " period " ++ (decimal period ++ (codes " step " ++ (signed_decimal step ++ (10 ∷ [])))))
    ≡ written (series_line (form_with values period step) ∷ [])
line_is values period step =
    append_assoc (codes "series") (flat_map (λ date. 32 ∷ date_word date) values) (codes " period " ++ (decimal period ++ (codes " step " ++ (signed_decimal step ++ (10 ∷ [])))))
    ∙ ap (λ (t : List ℕ). codes "series" ++ t) (sym (further_both date_word values (codes "period" ∷ decimal period ∷ codes "step" ∷ signed_decimal step ∷ []) []))
