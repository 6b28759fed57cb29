-- What is found of an answer on the net alone, and when it is so.
use Rattle.std.specs.Prelude.{ℕ, ◌+◌, ◌≡◌, ⊤, List}
use Rattle.teg_net.specs.declared.entries.TransitionId.{TransitionId}
use Rattle.teg_net.specs.Nets.{NetLists}
use Rattle.teg_net.specs.Circuits.{IsLive}
use Rattle.teg_net.specs.Ratios.{Fraction}
use Rattle.witness_check.specs.Liveness.{TellsDeadlock, TellsLive}
use Rattle.pace_check.specs.ShownCycles.{IsShownPace}
use Rattle.pace_check.specs.ShownSizes.{IsShownSize}
use Rattle.pace_check.specs.declared.sizes.ShownSize.{ShownSize}
use Rattle.answer_check.specs.NoCircuits.{IsShownNoCircuit}
use Rattle.answer_check.specs.ShownDates.{HasRow, IsFiringText, IsShownDate}
use Rattle.answer_check.specs.ShownLists.{IsListText, IsRefutedList, IsShownList}
use Rattle.answer_check.specs.ShownSlacks.{IsShownSlack}
use Rattle.answer_check.specs.declared.date.ShownDate.{ShownDate}
use Rattle.audit_calls.specs.declared.finding.Finding.{Finding}
use Rattle.audit_calls.specs.declared.finding.Finding.TheVariants.{Shown, Refuted, WrongLine, NotShown, NoChecker}
use Rattle.audit_calls.specs.declared.kinds.Alone.{Alone}
use Rattle.audit_calls.specs.declared.kinds.Alone.TheVariants.{Live, Deadlock, Listed, NoCircuit, Slack, Cycle, Size}

-- the text is an answer of this kind that is shown on the net alone
abbrev pub IsShownAlone : NetLists → Alone → List ℕ → Type 0
IsShownAlone net Live text = IsLive net × TellsLive net text
IsShownAlone net Deadlock text = TellsDeadlock net text
IsShownAlone net Listed text = (count : ℕ) × IsShownList net text count
IsShownAlone net NoCircuit text = IsShownNoCircuit net text
IsShownAlone net Slack text = (ratio : Fraction) × IsShownSlack net text ratio
IsShownAlone net Cycle text = (ratio : Fraction) × IsShownPace net text ratio
IsShownAlone net Size text = (shown : ShownSize) × IsLive net × IsShownSize net text shown

-- the text tells the date of a firing
abbrev pub IsShownDateOf : NetLists → List ℕ → Type 0
IsShownDateOf net text = (shown : ShownDate) × IsShownDate net text shown

-- what is found of an answer that says this is so: it is shown only where it is, and refuted only where the net is live and it is not
abbrev pub IsFound : NetLists → Type 0 → Finding → Type 0
IsFound net says Shown = says
IsFound net says Refuted = IsLive net × (says → ⊥)
IsFound net says (WrongLine line) = ⊥
IsFound net says NotShown = ⊤
IsFound net says NoChecker = ⊥

-- what is found of a list: it is shown only where it is that of the least dates, a line of it is wrong only where this is the first row
-- that does not tell the dates of the least dating, and neither is found only where the net is not live or the text is no list
abbrev pub IsListFound : NetLists → List ℕ → Finding → Type 0
IsListFound net text Shown = IsShownAlone net Listed text
IsListFound net text Refuted = ⊥
IsListFound net text (WrongLine line) = (row : ℕ) × (line ≡ row + 1) × IsRefutedList net text row × (IsShownAlone net Listed text → ⊥)
IsListFound net text NotShown = IsLive net → (count : ℕ) (words : ℕ → ℕ → List ℕ) → IsListText net text count words → ⊥
IsListFound net text NoChecker = ⊥

-- what is found of an answer of which it is known in each net whether it is so
abbrev pub IsDecided : Type 0 → Finding → Type 0
IsDecided says Shown = says
IsDecided says Refuted = says → ⊥
IsDecided says (WrongLine line) = ⊥
IsDecided says NotShown = ⊥
IsDecided says NoChecker = ⊥

-- what is found of one of which it is known in each live net whether it is so: neither is found only where the net is not live
abbrev pub IsDecidedWhereLive : NetLists → Type 0 → Finding → Type 0
IsDecidedWhereLive net says Shown = says
IsDecidedWhereLive net says Refuted = IsLive net × (says → ⊥)
IsDecidedWhereLive net says (WrongLine line) = ⊥
IsDecidedWhereLive net says NotShown = IsLive net → ⊥
IsDecidedWhereLive net says NoChecker = ⊥

-- what is found of one date by a list: it is shown only where it is so, refuted only where the net is live and it is not, and neither is found
-- only where the list is not shown to be that of the least dates, or the text is not the line of a firing that it has
abbrev pub IsDateFound : NetLists → List ℕ → List ℕ → Finding → Type 0
IsDateFound net list text Shown = IsShownDateOf net text
IsDateFound net list text Refuted = IsLive net × (IsShownDateOf net text → ⊥)
IsDateFound net list text (WrongLine line) = ⊥
IsDateFound net list text NotShown = (t : TransitionId) (k : ℕ) (word : List ℕ) → IsFiringText net text t k word → HasRow net list k → ⊥
IsDateFound net list text NoChecker = ⊥

-- what is found of an answer of this kind, on the net alone
abbrev pub IsFoundAlone : NetLists → Alone → List ℕ → Finding → Type 0
IsFoundAlone net Live text finding = IsDecided (IsShownAlone net Live text) finding
IsFoundAlone net Deadlock text finding = IsDecided (IsShownAlone net Deadlock text) finding
IsFoundAlone net Listed text finding = IsListFound net text finding
IsFoundAlone net NoCircuit text finding = IsDecided (IsShownAlone net NoCircuit text) finding
IsFoundAlone net Size text finding = IsDecidedWhereLive net (IsShownAlone net Size text) finding
IsFoundAlone net kind text finding = IsFound net (IsShownAlone net kind text) finding
