-- What is said of the dates of a live net for ever, and of one of them.
use Rattle.std.specs.Prelude.{ℕ, ◌≤◌, ◌≡◌, ◌≢◌, ◌⊎◌, List, All, Option, Some, None, slice_get, IsSomeAnd, ◌∷◌, ⊤, []}
use Rattle.teg_report.specs.dioid.declared.dates.Date.{Date}
use Rattle.settled_laws.specs.SettledForms.{SettledForm, settled_length, IsSettledFormOf, NetSettlesPast}
use Rattle.teg_report.specs.teg_model.Datings.{IsLeastDating}
use Rattle.teg_net.specs.declared.entries.TransitionId.{TransitionId}
use Rattle.teg_net.specs.Nets.{NetLists}
use Rattle.teg_settle.specs.declared.refusals.SettleRefusal.{SettleRefusal}
use Rattle.teg_settle.specs.declared.refusals.SettleRefusal.TheVariants.{TooLong, OutOfMemory}
use Rattle.teg_outcome.specs.declared.outcome.Verdict.{Verdict}
use Rattle.teg_outcome.specs.declared.outcome.Verdict.TheVariants.{Done as VerdictDone, TooLong as VerdictTooLong, Name as VerdictName}
use Rattle.teg_report.specs.SettledTexts.{IsSettledKept, settled_lines}
use Rattle.teg_report.specs.ShortAnswers.{date_line, no_transition_line, too_long_line}
use Rattle.teg_report.specs.teg_text.WordsOfNames.{name_of_transition}
use Rattle.teg_report.specs.teg_text.Lines.{written}
use Rattle.teg_report.specs.teg_text.ValueWords.{AreBytes, IsDate}

-- the form is within the limit, where there is one
abbrev pub IsFormWithinLimit : Option ℕ → SettledForm → Type 0
IsFormWithinLimit None f = ⊤
IsFormWithinLimit (Some limit) f = settled_length f ≤ limit

-- a search gives up for a limit that is given and that each settled form exceeds, or for want of memory
abbrev pub FormExceedsLimit : NetLists → Option ℕ → SettleRefusal → Type 0
FormExceedsLimit net limit (TooLong l) = (limit ≡ Some l) × NetSettlesPast net l
FormExceedsLimit net limit OutOfMemory = ⊤

-- that a settled form is longer than the limit
abbrev pub too_long_text : ℕ → List ℕ
too_long_text limit = written (too_long_line limit ∷ [])

-- there is a limit, which is exceeded, and this says so
abbrev pub SaysTooLong : (ℕ → Type 0) → Option ℕ → Verdict → List ℕ → Type 0
SaysTooLong exceeds None verdict text = ⊥
SaysTooLong exceeds (Some limit) verdict text = (verdict ≡ VerdictTooLong) × exceeds limit × (text ≡ too_long_text limit)

-- of a live net the shortest settled form of the least dating is said, or that it is longer than the limit
abbrev pub SaysDates : Option ℕ → NetLists → Verdict → List ℕ → Type 0
SaysDates limit net verdict text =
    ((verdict ≡ VerdictDone) × ((f : SettledForm) × IsSettledFormOf net f × IsFormWithinLimit limit f × IsSettledKept f × (text ≡ written (settled_lines net f))))
    ⊎ SaysTooLong (NetSettlesPast net) limit verdict text

-- the least dating has a settled form within the limit, where there is one
abbrev pub SettlesWithin : Option ℕ → NetLists → Type 0
SettlesWithin limit net = (f : SettledForm) × IsSettledFormOf net f × IsFormWithinLimit limit f

-- the transition has this name
abbrev pub HasName : NetLists → TransitionId → List ℕ → Type 0
HasName net t word = IsSomeAnd (slice_get net.transitions t.index) (λ transition. transition.name ≡ word)

-- the date of the firing of this number of a transition of this name is said, or that the settled form is longer than the limit
abbrev pub SaysDateOf : TransitionId → ℕ → Option ℕ → NetLists → Verdict → List ℕ → Type 0
SaysDateOf t number limit net verdict text =
    ((verdict ≡ VerdictDone) × ((x : ℕ → ℕ → Date) × IsLeastDating net x × SettlesWithin limit net × IsDate (x t.index number)
    × (text ≡ written (date_line (name_of_transition net t) number (x t.index number) ∷ []))))
    ⊎ SaysTooLong (NetSettlesPast net) limit verdict text

-- that no transition has this name is said
abbrev pub TellsNoTransition : List ℕ → Verdict → List ℕ → Type 0
TellsNoTransition word verdict text = (verdict ≡ VerdictName) × AreBytes word × (text ≡ written (no_transition_line word ∷ []))

-- of a live net the least date of one firing is said, or that no transition has the name
abbrev pub SaysDate : List ℕ → ℕ → Option ℕ → NetLists → Verdict → List ℕ → Type 0
SaysDate word number limit net verdict text =
    (All (λ t. t.name ≢ word) net.transitions × TellsNoTransition word verdict text)
    ⊎ ((t : TransitionId) × HasName net t word × SaysDateOf t number limit net verdict text)
