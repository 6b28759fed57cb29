-- The text of an answer, and what an answer about a net meets.
use Rattle.std.specs.Prelude.{ℕ, ◌<◌, ◌≡◌, ◌≢◌, List, [], ◌∷◌, ◌++◌, Option, Some, None, IsSomeAnd, length, All, ⊤}
use Rattle.date_rows.specs.DateTables.{date_at}
use Rattle.teg_net.specs.Circuits.{AreInRange}
use Rattle.teg_net.specs.Nets.{NetLists}
use Rattle.series_form.specs.declared.forms.SeriesRefused.TheVariants.{OutOfMemory as NoRoom}
use Rattle.teg_outside.specs.Monitors.{IsOneLine}
use Rattle.teg_calc.specs.declared.refusals.ParseRefused.TheVariants.{OutOfMemory as NoText}
use Rattle.teg_calc.specs.Printing.{series_line}
use Rattle.teg_due.specs.declared.rows.DueRefusal.TheVariants.{OutOfMemory as NoDueRoom}
use Rattle.teg_due.specs.declared.rows.LogRefusal.TheVariants.{OutOfMemory as NoLogRoom}
use Rattle.teg_reader.specs.declared.refusals.ReadRefusal.TheVariants.{OutOfMemory}
use Rattle.teg_report.specs.Series.{parse_line, series_refused_line}
use Rattle.teg_report.specs.AnswerValues.{Answer, Usage, Live, Listed, Form, NoCircuit, Cycle, Dates, Date, Jit, Late, Slack, Transfer, Replayed}
use Rattle.teg_report.specs.AnswerValues.{Refused, Calc, Trial, Read, TooLarge, TokenFree, NoTransition, Due, Log, TooLong, Parse, Series, Fault}
use Rattle.teg_lines.specs.CycleLines.{IsCycleTold, cycle_lines}
use Rattle.teg_lines.specs.RoundLines.{AreRoundsTold, runs_lines, told_runs}
use Rattle.teg_report.specs.FileRows.{IsFailureIn, due_line, log_line, refused_lines, replayed_lines}
use Rattle.teg_report.specs.FormLines.{HasEndsIn, form_lines}
use Rattle.teg_report.specs.PlanLines.{IsLatePlanTold, IsPlanIn, late_lines, plan_lines}
use Rattle.teg_report.specs.SettledTexts.{AreTimesIn, settled_lines, transfer_lines}
use Rattle.teg_report.specs.SlackLines.{slack_lines, trial_lines}
use Rattle.teg_text.specs.Lines.{written}
use Rattle.teg_text.specs.WordsOfNames.{name_of_transition}
use Rattle.teg_report.specs.DateLists.{list_lines}
use Rattle.teg_report.specs.FileRefusalLines.{read_line}
use Rattle.teg_report.specs.UsageLines.{usage_lines}
use Rattle.teg_report.specs.ShortAnswers.{live_lines, no_circuit_line, too_large_line, read_fault_line, no_transition_line, too_long_line, date_line}
use Rattle.teg_lines.specs.CircuitLines.{token_free_line}

-- the net whose names are told; no names where none is given
abbrev pub names_from : Option NetLists → NetLists
names_from None = record { transitions = []; places = []; inputs = [] }
names_from (Some net) = net

-- the lines of an answer, with the names of this net
abbrev pub lines_of : NetLists → Answer → List (List (List ℕ))
lines_of net Usage = usage_lines
lines_of net (Live transitions places) = live_lines transitions places
lines_of net (Listed table) = list_lines net (date_at table) table.count
lines_of net (Form form) = form_lines net form
lines_of net NoCircuit = no_circuit_line ∷ []
lines_of net (Cycle answer rounds) = cycle_lines net answer ++ runs_lines net (told_runs answer.parts rounds)
lines_of net (Dates settled) = settled_lines net settled
lines_of net (Date transition number date) = date_line (name_of_transition net transition) number date ∷ []
lines_of net (Jit plan) = plan_lines net plan
lines_of net (Late late) = late_lines net late
lines_of net (Slack ratio slacks) = slack_lines net ratio slacks
lines_of net (Transfer inputs) = transfer_lines net inputs
lines_of net (Replayed accepted lines) = replayed_lines accepted lines
lines_of net (Refused row failure lines) = refused_lines net row failure lines
lines_of net (Calc series) = series_line series ∷ []
lines_of net (Trial machines places ratio critical last) = trial_lines machines places ratio critical last
lines_of net (Read refusal) = read_line refusal ∷ []
lines_of net (TooLarge file) = too_large_line file ∷ []
lines_of net (TokenFree circuit) = token_free_line net circuit ∷ []
lines_of net (NoTransition word) = no_transition_line word ∷ []
lines_of net (Due refusal) = due_line refusal ∷ []
lines_of net (Log refusal) = log_line refusal ∷ []
lines_of net (TooLong limit) = too_long_line limit ∷ []
lines_of net (Parse refusal) = parse_line refusal ∷ []
lines_of net (Series refusal) = series_refused_line refusal ∷ []
lines_of net (Fault file) = read_fault_line file ∷ []

-- the text of an answer, with the names of the net where one is given
abbrev pub text_of : Option NetLists → Answer → List ℕ
text_of net answer = written (lines_of (names_from net) answer)

-- what an answer speaks of is there: the net, where its names are told, and the transitions and places that the answer names
abbrev pub IsAbout : Option NetLists → Answer → Type 0
IsAbout net Usage = ⊤
IsAbout net (Live transitions places) = ⊤
IsAbout net (Listed table) = IsSomeAnd net (λ n. table.width ≡ length n.transitions)
IsAbout net (Form form) = IsSomeAnd net (λ n. HasEndsIn n form)
IsAbout net NoCircuit = ⊤
IsAbout net (Cycle answer rounds) = IsSomeAnd net (λ n. IsCycleTold n answer × AreRoundsTold n answer.parts rounds)
IsAbout net (Dates settled) = IsSomeAnd net (λ n. length settled.rows ≡ length n.transitions)
IsAbout net (Date transition number date) = IsSomeAnd net (λ n. transition.index < length n.transitions)
IsAbout net (Jit plan) = IsSomeAnd net (λ n. IsPlanIn n plan)
IsAbout net (Late late) = IsSomeAnd net (λ n. IsLatePlanTold n late)
IsAbout net (Slack ratio slacks) = IsSomeAnd net (λ n. length slacks ≡ length n.places)
IsAbout net (Transfer inputs) = IsSomeAnd net (λ n. All (AreTimesIn n) inputs)
IsAbout net (Replayed accepted lines) = All IsOneLine lines
IsAbout net (Refused row failure lines) = IsFailureIn net failure × All IsOneLine lines
IsAbout net (Calc series) = ⊤
IsAbout net (Trial machines places ratio critical last) = ⊤
IsAbout net (Read refusal) = refusal ≢ OutOfMemory
IsAbout net (TooLarge file) = ⊤
IsAbout net (TokenFree circuit) = IsSomeAnd net (λ n. AreInRange n circuit)
IsAbout net (NoTransition word) = ⊤
IsAbout net (Due refusal) = refusal ≢ NoDueRoom
IsAbout net (Log refusal) = refusal ≢ NoLogRoom
IsAbout net (TooLong limit) = ⊤
IsAbout net (Parse refusal) = refusal ≢ NoText
IsAbout net (Series refusal) = refusal ≢ NoRoom
IsAbout net (Fault file) = ⊤
