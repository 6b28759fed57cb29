-- Series and their refusals are read back from their lines.
use Rattle.std.proofs.Common.{◌≡◌, ℕ, suc, ◌+◌, ◌-◌, List, [], ◌∷◌, ◌++◌, map, take, length, get_or, refl, ap, subst, ◌∙◌, arith, codes}
use Rattle.std.specs.Fmt.{decimal, signed_decimal}
use Rattle.std.specs.Prelude.{⊤}
use Rattle.std.proofs.lemmas.Bool.{and_from}
use Rattle.std.proofs.lemmas.List.{get_or_default, length-append}
use Rattle.dioid.specs.declared.dates.Date.{Date}
use Rattle.dioid.specs.declared.dates.Date.TheVariants.{Early, At, Never}
use Rattle.series_form.specs.NumberBounds.{IsSeries, IsSmallDate}
use Rattle.series_form.specs.declared.forms.SeriesRefused.{SeriesRefused}
use Rattle.series_form.specs.declared.forms.SeriesRefused.TheVariants.{TooLong, TooGreat, OutOfMemory as NoRoom}
use Rattle.series_laws.specs.SeriesForms.{Form as SeriesForm}
use Rattle.teg_calc.specs.declared.refusals.ParseRefused.{ParseRefused}
use Rattle.teg_calc.specs.declared.refusals.ParseRefused.TheVariants.{Syntax, TooDeep, OutOfMemory as NoText}
use Rattle.teg_calc.specs.Printing.{series_line}
use Rattle.teg_net.specs.Nets.{NetLists}
use Rattle.teg_report.specs.Series.{series_in, IsSeriesKept, IsParseKept, IsSeriesRefusalKept, parse_line, series_refused_line}
use Rattle.teg_report.specs.AnswerValues.{Calc, Parse, Series}
use Rattle.teg_report.proofs.IsRead.{IsRead}
use Rattle.teg_text.specs.Lines.{is_word}
use Rattle.teg_text.specs.WordReading.{date_of_word, number_in, signed_in}
use Rattle.teg_text.specs.ValueWords.{IsDate, date_word}
use Rattle.teg_text.proofs.Back.{number_back, word32_back, word64_back, signed_back, date_back}
use Rattle.teg_text.proofs.LineBlocks.{before_back, behind_back, map_back, map_passes}
use Rattle.teg_text.proofs.Words.{all_append, decimal_is_word, date_is_word, signed_is_word}

abbrev told_values : SeriesForm → List (List ℕ)
told_values f = map date_word f.values

abbrev told_numbers : SeriesForm → List (List ℕ)
told_numbers f = codes "period" ∷ decimal f.period ∷ codes "step" ∷ signed_decimal f.step ∷ []

series_back : (f : SeriesForm) → IsSeriesKept f → series_in (series_line f) ≡ f
series_back f h =
    let n : length (told_values f ++ told_numbers f) ≡ length (told_values f) + 4 = length-append (told_values f) (told_numbers f) in
    let first : length (series_line f) - 5 ≡ length (told_values f) = omega (arith, n) in
    let third : length (series_line f) - 3 ≡ suc (length (told_values f) + 1) = omega (arith, n) in
    let last : length (series_line f) - 1 ≡ suc (length (told_values f) + 3) = omega (arith, n) in
    let values : map date_of_word (take (length (series_line f) - 5) (told_values f ++ told_numbers f)) ≡ f.values =
    ap (λ (k : ℕ). map date_of_word (take k (told_values f ++ told_numbers f))) first
    ∙ (ap (map date_of_word) (before_back (told_values f) (told_numbers f)) ∙ map_back IsDate date_word date_of_word date_back f.values h.values) in
    let period : number_in (get_or (series_line f) (length (series_line f) - 3) []) ≡ f.period =
    ap (λ (k : ℕ). number_in (get_or (series_line f) k [])) third
    ∙ (ap number_in (behind_back (told_values f) (told_numbers f) 1 []) ∙ word64_back f.period h.period) in
    let step : signed_in (get_or (series_line f) (length (series_line f) - 1) []) ≡ f.step =
    ap (λ (k : ℕ). signed_in (get_or (series_line f) k [])) last
    ∙ (ap signed_in (behind_back (told_values f) (told_numbers f) 3 []) ∙ signed_back f.step h.step) in
    λ i. record { values = values i; period = period i; step = step i }

pub series_read : (names : NetLists) (f : SeriesForm) → IsSeriesKept f → IsRead names (series_line f ∷ []) (Calc f)
series_read names f h = record {
  words = and_from _ _
      (all_append is_word (told_values f) (told_numbers f)
      (map_passes (λ (d : Date). ⊤) is_word date_word (λ d _. date_is_word d) f.values (λ i d l. tt))
      (rw (decimal_is_word f.period, signed_is_word f.step) refl)) refl;
  back = ap Calc (series_back f h);
}

pub parse_read : (names : NetLists) (refusal : ParseRefused) → IsParseKept refusal → IsRead names (parse_line refusal ∷ []) (Parse refusal)
parse_read names (Syntax at) h = record { words = rw (decimal_is_word at) refl; back = rw (word32_back at h) refl }
parse_read names (TooDeep at) h = record { words = rw (decimal_is_word at) refl; back = rw (word32_back at h) refl }
parse_read names NoText h = absurd h

pub series_refused_read : (names : NetLists) (refusal : SeriesRefused) → IsSeriesRefusalKept refusal → IsRead names (series_refused_line refusal ∷ []) (Series refusal)
series_refused_read names (TooLong need) h = record { words = rw (decimal_is_word need) refl; back = rw (number_back need (omega (arith, h))) refl }
series_refused_read names (TooGreat value) h = record { words = rw (signed_is_word value) refl; back = rw (signed_back value h) refl }
series_refused_read names NoRoom h = absurd h

-- what the numbers of a series keep
small_is_date : (d : Date) → IsSmallDate d → IsDate d
small_is_date Early h = tt
small_is_date (At t) h = omega (arith, h)
small_is_date Never h = tt

pub series_kept : (f : SeriesForm) → IsSeries f → IsSeriesKept f
series_kept f h = record {
  values = λ i d l. subst IsDate (get_or_default f.values i Early d l) (small_is_date (get_or f.values i Early) (h.small.values i));
  period = omega (arith, h.canonical.form.period_fits, h.short);
  step = omega (arith, h.small.step);
}
