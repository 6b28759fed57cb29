-- What is said of the first dates of a live net.
use Rattle.std.specs.Prelude.{ℕ, ◌≡◌, List}
use Rattle.teg_report.specs.dioid.declared.dates.Date.{Date}
use Rattle.teg_report.specs.teg_model.Datings.{IsLeastDating}
use Rattle.teg_report.specs.teg_text.Lines.{written}
use Rattle.teg_report.specs.DateLists.{list_lines}
use Rattle.teg_net.specs.Nets.{NetLists}
use Rattle.teg_outcome.specs.declared.outcome.Verdict.{Verdict}
use Rattle.teg_outcome.specs.declared.outcome.Verdict.TheVariants.{Done as VerdictDone}

-- the dates that x gives to the firings of the numbers 1 to count
abbrev pub list_text : NetLists → (ℕ → ℕ → Date) → ℕ → List ℕ
list_text net x count = written (list_lines net x count)

-- of a live net the first dates of its least dating are said
abbrev pub SaysList : ℕ → NetLists → Verdict → List ℕ → Type 0
SaysList count net verdict text =
    (verdict ≡ VerdictDone) × ((x : ℕ → ℕ → Date) × IsLeastDating net x × (text ≡ list_text net x count))
