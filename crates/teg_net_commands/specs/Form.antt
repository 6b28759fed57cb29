-- What is said of the standard form of a live net.
use Rattle.std.specs.Prelude.{All, ℕ, ◌≡◌, List}
use Rattle.teg_form.specs.StandardForms.{FormLists, IsStandardFormOf}
use Rattle.teg_net.specs.Nets.{NetLists}
use Rattle.teg_outcome.specs.declared.outcome.Verdict.{Verdict}
use Rattle.teg_outcome.specs.declared.outcome.Verdict.TheVariants.{Done as VerdictDone}
use Rattle.teg_report.specs.FormLines.{IsStarKept, IsEntryKept, form_lines}
use Rattle.teg_report.specs.teg_text.Lines.{written}

-- of a live net the standard form is said
abbrev pub SaysForm : NetLists → Verdict → List ℕ → Type 0
SaysForm net verdict text =
    (verdict ≡ VerdictDone)
    × ((form : FormLists) × IsStandardFormOf net form × All IsStarKept form.stars × All IsEntryKept form.entries × (text ≡ written (form_lines net form)))
