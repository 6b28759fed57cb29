-- What is said of how soon the dates of a live net become periodic.
use Rattle.std.specs.Prelude.{ℕ, ◌≤◌, ◌≡◌, ◌⊎◌, List}
use Rattle.teg_settle.specs.settled_laws.SettledForms.{SettledForm, IsSettledFormOf}
use Rattle.teg_bound.specs.declared.bound.BoundAnswer.{BoundAnswer}
use Rattle.teg_bound.specs.PeriodicBounds.{IsBoundOf, IsRightBound}
use Rattle.teg_bound.specs.BoundTexts.{BoundTold, bound_lines, told_bound, IsCause, AreNumbersIn}
use Rattle.teg_net.specs.Nets.{NetLists}
use Rattle.teg_report.specs.teg_text.Lines.{written}
use Rattle.teg_outcome.specs.declared.outcome.Verdict.{Verdict}
use Rattle.teg_outcome.specs.declared.outcome.Verdict.TheVariants.{Done as VerdictDone}

-- the bound of the net is said, with the number and the period of the shortest settled form of its least dating; that number is no greater
abbrev pub SaysNumber : NetLists → List ℕ → Type 0
SaysNumber net text =
    (number : ℕ) × (f : SettledForm) × IsBoundOf net number × IsSettledFormOf net f × (f.after ≤ number)
    × AreNumbersIn (BoundTold number f.after f.period) × (text ≡ written (bound_lines (BoundTold number f.after f.period)))

-- why there is no bound is said
abbrev pub SaysNoNumber : NetLists → List ℕ → Type 0
SaysNoNumber net text = (answer : BoundAnswer) × IsCause answer × IsRightBound net answer × (text ≡ written (bound_lines (told_bound answer 0 0)))

-- of a live net a bound is said past which its dates are periodic, or why there is none
abbrev pub SaysBound : NetLists → Verdict → List ℕ → Type 0
SaysBound net verdict text = (verdict ≡ VerdictDone) × (SaysNumber net text ⊎ SaysNoNumber net text)
