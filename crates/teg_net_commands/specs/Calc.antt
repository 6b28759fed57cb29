-- What is said of an expression: its series, or its refusal.
use Rattle.std.specs.Prelude.{ℕ, ◌≡◌, ◌⊎◌, List, Ok, Err, ◌∷◌, []}
use Rattle.series_form.specs.declared.forms.SeriesRefused.{SeriesRefused}
use Rattle.series_form.specs.declared.forms.SeriesRefused.TheVariants.{OutOfMemory as NoRoom}
use Rattle.series_form.specs.NumberBounds.{IsSeries}
use Rattle.teg_report.specs.series_laws.SeriesForms.{Form, value_at}
use Rattle.teg_calc.specs.declared.refusals.ParseRefused.{ParseRefused}
use Rattle.teg_calc.specs.declared.refusals.ParseRefused.TheVariants.{OutOfMemory as NoMemory}
use Rattle.teg_calc.specs.Meaning.{Evaluates, Means}
use Rattle.teg_calc.specs.ParseAnswers.{IsParsed, IsParseOf}
use Rattle.teg_calc.specs.ExpressionTrees.{Tree}
use Rattle.teg_outcome.specs.declared.outcome.Verdict.{Verdict}
use Rattle.teg_outcome.specs.declared.outcome.Verdict.TheVariants.{Done as VerdictDone, Calc as VerdictCalc}
use Rattle.teg_outcome.specs.CommandOutcomes.{TellsWhy}
use Rattle.teg_report.specs.Series.{IsParseKept, IsSeriesRefusalKept, parse_line, series_refused_line}
use Rattle.teg_calc.specs.Printing.{series_line}
use Rattle.teg_report.specs.teg_text.Lines.{written}

-- this is the canonical form of what the tree means at every shift
pub record IsSeriesOf (tree : Tree) (form : Form) : Type 0 where
  pub meaning : Means tree (value_at form)
  pub series : IsSeries form
  pub evaluated : Evaluates tree (Ok form)

-- of a tree its series is told
abbrev pub TellsSeries : Tree → Verdict → List ℕ → Type 0
TellsSeries tree verdict told = (verdict ≡ VerdictDone) × ((form : Form) × IsSeriesOf tree form × (told ≡ written (series_line form ∷ [])))

-- of a tree the first refusal of its operations is told
abbrev pub TellsRefusal : Tree → Verdict → List ℕ → Type 0
TellsRefusal tree verdict told = (refusal : SeriesRefused) × Evaluates tree (Err refusal) × TellsWhy (λ r. series_refused_line r ∷ []) IsSeriesRefusalKept NoRoom VerdictCalc refusal verdict told

-- of a tree its series is told, or the first refusal of its operations
abbrev pub SaysSeries : Tree → Verdict → List ℕ → Type 0
SaysSeries tree verdict told = TellsSeries tree verdict told ⊎ TellsRefusal tree verdict told

-- it is told where the text is no expression, or too deep
abbrev pub TellsFault : List ℕ → Verdict → List ℕ → Type 0
TellsFault text verdict told = (refusal : ParseRefused) × IsParseOf text (Err refusal) × TellsWhy (λ r. parse_line r ∷ []) IsParseKept NoMemory VerdictCalc refusal verdict told

-- what the tree of the text says, or why there is none
abbrev pub SaysCalc : List ℕ → Verdict → List ℕ → Type 0
SaysCalc text verdict told = ((tree : Tree) × IsParsed text tree × SaysSeries tree verdict told) ⊎ TellsFault text verdict told
