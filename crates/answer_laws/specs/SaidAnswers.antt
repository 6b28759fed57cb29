-- What the checkers of printed answers show is what the commands say.
use Rattle.std.specs.Prelude.{ℕ, ◌≡◌, ◌↔◌, List, ◌∷◌, []}
use Rattle.answer_check.specs.declared.date.ShownDate.{ShownDate}
use Rattle.teg_critical.specs.declared.slacks.Slack.{Slack}
use Rattle.teg_critical.specs.Slacks.{AreSlacks}
use Rattle.teg_net.specs.Circuits.{IsLive}
use Rattle.teg_net.specs.Nets.{NetLists}
use Rattle.teg_net.specs.Ratios.{Fraction}
use Rattle.teg_outcome.specs.declared.outcome.Verdict.TheVariants.{Done as VerdictDone}
use Rattle.teg_text.specs.Lines.{written}
use Rattle.teg_text.specs.WordsOfNames.{name_of_transition}
use Rattle.teg_report.specs.dioid.declared.dates.Date.{Date}
use Rattle.teg_report.specs.teg_model.Datings.{IsLeastDating}
use Rattle.teg_report.specs.ShortAnswers.{date_line}
use Rattle.teg_report.specs.SlackLines.{slack_lines}
use Rattle.teg_files.specs.List.{SaysList}
use Rattle.teg_pace_commands.specs.Slack.{IsBestRatio, SaysSlack}
use Rattle.answer_check.specs.NoCircuits.{IsShownNoCircuit}
use Rattle.answer_check.specs.ShownDates.{IsShownDate}
use Rattle.answer_check.specs.ShownLists.{IsShownList}
use Rattle.answer_check.specs.ShownSlacks.{IsShownSlack}

-- a text is shown to be a list up to a number just where the net is live and the list is said
abbrev pub ShownListsAreSaid : Type 0
ShownListsAreSaid = (net : NetLists) (text : List ℕ) (count : ℕ) → IsShownList net text count ↔ (IsLive net × SaysList count net VerdictDone text)

-- where a text is shown to tell a date, it is the line of the date that the least dating gives to the firing
abbrev pub ShownDatesAreSaid : Type 0
ShownDatesAreSaid = (net : NetLists) (text : List ℕ) (shown : ShownDate) → IsShownDate net text shown → (x : ℕ → ℕ → Date) → IsLeastDating net x
    → text ≡ written (date_line (name_of_transition net shown.transition) shown.number (x shown.transition.index shown.number) ∷ [])

-- where a net is shown to have no circuit, it is live, and this is said of its slack
abbrev pub ShownNoCircuitIsSaid : Type 0
ShownNoCircuitIsSaid = (net : NetLists) (text : List ℕ) → IsShownNoCircuit net text → IsLive net × SaysSlack net VerdictDone text

-- the text tells the greatest ratio of the net, in lowest terms, and the slack of each place, as they are said
abbrev pub TellsSlackOfNet : NetLists → Fraction → List ℕ → Type 0
TellsSlackOfNet net r text = IsBestRatio net r × ((slacks : List Slack) × AreSlacks net r slacks × (text ≡ written (slack_lines net r slacks)))

-- so does each text that is shown to tell slacks
abbrev pub ShownSlacksAreSaid : Type 0
ShownSlacksAreSaid = (net : NetLists) (text : List ℕ) (r : Fraction) → IsShownSlack net text r → TellsSlackOfNet net r text
