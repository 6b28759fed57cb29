-- What is said of the size of a live net.
use Rattle.std.specs.Prelude.{ℕ, ◌≡◌, List, length}
use Rattle.teg_net.specs.Nets.{NetLists}
use Rattle.teg_outcome.specs.declared.outcome.Verdict.{Verdict}
use Rattle.teg_outcome.specs.declared.outcome.Verdict.TheVariants.{Done as VerdictDone}
use Rattle.teg_report.specs.ShortAnswers.{live_lines}
use Rattle.teg_report.specs.teg_text.Lines.{written}

-- of a live net its size is said
abbrev pub SaysCheck : NetLists → Verdict → List ℕ → Type 0
SaysCheck net verdict text = (verdict ≡ VerdictDone) × (text ≡ written (live_lines (length net.transitions) (length net.places)))
