-- What values of the code mean.
use Rattle.std.specs.Prelude.{List, Option, Some, None, map, string_bytes}
use Rattle.std.specs.Option.{option_copied, option_map}
use Rattle.teg_report.specs.declared.answer.Answer.{Answer as CodedAnswer}
use Rattle.teg_report.specs.declared.answer.Answer.TheVariants.{Usage as CodedUsage, Live as CodedLive, List as CodedList, Form as CodedForm}
use Rattle.teg_report.specs.declared.answer.Answer.TheVariants.{NoCircuit as CodedNoCircuit, Cycle as CodedCycle, Dates as CodedDates}
use Rattle.teg_report.specs.declared.answer.Answer.TheVariants.{Date as CodedDate, Jit as CodedJit, Late as CodedLate, Slack as CodedSlack}
use Rattle.teg_report.specs.declared.answer.Answer.TheVariants.{Transfer as CodedTransfer, Replayed as CodedReplayed, Refused as CodedRefused}
use Rattle.teg_report.specs.declared.answer.Answer.TheVariants.{Calc as CodedCalc, Trial as CodedTrial, Read as CodedRead, TooLarge as CodedTooLarge}
use Rattle.teg_report.specs.declared.answer.Answer.TheVariants.{TokenFree as CodedTokenFree, NoTransition as CodedNoTransition, Due as CodedDue}
use Rattle.teg_report.specs.declared.answer.Answer.TheVariants.{Log as CodedLog, TooLong as CodedTooLong, Parse as CodedParse, Series as CodedSeries}
use Rattle.teg_report.specs.declared.answer.Answer.TheVariants.{Fault as CodedFault}
use Rattle.teg_lines.specs.CycleMeanings.{cycle_lists, runs_lists}
use Rattle.teg_report.specs.declared.answer.TransferFrom.{TransferFrom}
use Rattle.teg_report.specs.declared.answer.TransferLine.{TransferLine}
use Rattle.teg_jit.specs.declared.answers.JitRefusal.{JitRefusal}
use Rattle.teg_jit.specs.declared.answers.JitRefusal.TheVariants.{Late as LateThere, OutOfMemory}
use Rattle.teg_report.specs.PlanLines.{LateLists}
use Rattle.teg_report.specs.SettledTexts.{TimesFrom, TimesTo}
use Rattle.teg_report.specs.AnswerValues.{Answer, Usage, Live, Listed, Form, NoCircuit, Cycle, Dates, Date, Jit, Late, Slack, Transfer, Replayed}
use Rattle.teg_report.specs.AnswerValues.{Refused, Calc, Trial, Read, TooLarge, TokenFree, NoTransition, Due, Log, TooLong, Parse, Series, Fault}

-- the times to an output
abbrev pub times_to : TransferLine → TimesTo
times_to line = record { to = line.to; dates = line.dates.items; step = line.step }

-- the times from an input
abbrev pub times_from : TransferFrom → TimesFrom
times_from from = record { from = from.from; after = from.after; period = from.period; lines = map times_to from.lines.items }

-- a firing that is later than due; none for want of memory
abbrev pub late_lists : JitRefusal → Option LateLists
late_lists (LateThere transition number due least start walk) =
    Some (record { transition = transition; number = number; due = due; least = least; start = start; from = walk.start; first = walk.number; steps = walk.steps.items })
late_lists OutOfMemory = None

-- the answer
abbrev pub meant : CodedAnswer → Answer
meant CodedUsage = Usage
meant (CodedLive transitions places) = Live transitions places
meant (CodedList table) = Listed table.now
meant (CodedForm form) = Form form.now
meant CodedNoCircuit = NoCircuit
meant (CodedCycle answer rounds) = Cycle (cycle_lists answer.now) (option_map runs_lists (option_copied rounds))
meant (CodedDates settled) = Dates settled.now
meant (CodedDate transition number date) = Date transition number date
meant (CodedJit plan) = Jit plan.now
meant (CodedLate refusal) = Late (late_lists refusal.now)
meant (CodedSlack ratio slacks) = Slack ratio.now slacks.now
meant (CodedTransfer inputs) = Transfer (map times_from inputs.now)
meant (CodedReplayed accepted lines) = Replayed accepted (map string_bytes lines.now)
meant (CodedRefused row failure lines) = Refused row failure (map string_bytes lines.now)
meant (CodedCalc series) = Calc series.now
meant (CodedTrial machines places ratio critical last) = Trial machines places ratio.now critical last
meant (CodedRead refusal) = Read refusal.now
meant (CodedTooLarge file) = TooLarge file
meant (CodedTokenFree circuit) = TokenFree circuit.now.places.items
meant (CodedNoTransition word) = NoTransition word.now
meant (CodedDue refusal) = Due refusal.now
meant (CodedLog refusal) = Log refusal.now
meant (CodedTooLong limit) = TooLong limit
meant (CodedParse refusal) = Parse refusal.now
meant (CodedSeries refusal) = Series refusal.now
meant (CodedFault file) = Fault file
