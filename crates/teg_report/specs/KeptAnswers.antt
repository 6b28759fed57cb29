-- What the values of an answer keep, and where an answer is told in the one way that it has.
use Rattle.std.specs.Prelude.{Option, IfSome, All, ⊤}
use Rattle.date_rows.specs.DateTables.{IsDateTable}
use Rattle.teg_net.specs.Nets.{NetLists, IsNet}
use Rattle.teg_reader.specs.RefusalSpots.{HasPlainSpot}
use Rattle.teg_report.specs.AnswerValues.{Answer, Usage, Live, Listed, Form, NoCircuit, Cycle, Dates, Date, Jit, Late, Slack, Transfer, Replayed}
use Rattle.teg_report.specs.AnswerValues.{Refused, Calc, Trial, Read, TooLarge, TokenFree, NoTransition, Due, Log, TooLong, Parse, Series, Fault}
use Rattle.teg_report.specs.Reports.{IsAbout}
use Rattle.teg_report.specs.PlanLines.{AreLatestKept, IsLateKept}
use Rattle.teg_lines.specs.RoundLines.{IsRunKept}
use Rattle.teg_report.specs.SettledTexts.{IsSettledKept, AreTimesKept}
use Rattle.teg_text.specs.ValueWords.{AreBytes, IsDate}
use Rattle.teg_report.specs.Series.{IsSeriesKept, IsParseKept, IsSeriesRefusalKept}
use Rattle.teg_report.specs.FormLines.{IsStarKept, IsEntryKept}
use Rattle.teg_report.specs.FileRefusalLines.{IsReadRefusalKept}
use Rattle.teg_report.specs.SlackLines.{IsRatioKept, IsSlackKept, IsTrialKept}
use Rattle.teg_report.specs.FileRows.{IsDueKept, IsLogKept}
use Rattle.teg_lines.specs.Widths.{IsWord32, IsWord64}

-- what the values of an answer keep
abbrev pub IsAnswerKept : Answer → Type 0
IsAnswerKept Usage = ⊤
IsAnswerKept (Live transitions places) = IsWord32 transitions × IsWord32 places
IsAnswerKept (Listed table) = IsDateTable table × All IsDate table.dates
IsAnswerKept (Form form) = All IsStarKept form.stars × All IsEntryKept form.entries
IsAnswerKept NoCircuit = ⊤
IsAnswerKept (Cycle answer rounds) = IfSome rounds (λ runs. All IsRunKept runs)
IsAnswerKept (Dates settled) = IsSettledKept settled
IsAnswerKept (Date transition number date) = IsWord64 number × IsDate date
IsAnswerKept (Jit plan) = AreLatestKept plan
IsAnswerKept (Late late) = IsLateKept late
IsAnswerKept (Slack ratio slacks) = IsRatioKept ratio × All IsSlackKept slacks
IsAnswerKept (Transfer inputs) = All AreTimesKept inputs
IsAnswerKept (Replayed accepted lines) = IsWord64 accepted
IsAnswerKept (Refused row failure lines) = IsWord32 row
IsAnswerKept (Calc series) = IsSeriesKept series
IsAnswerKept (Trial machines places ratio critical last) = IsTrialKept machines places ratio critical last
IsAnswerKept (Read refusal) = IsReadRefusalKept refusal
IsAnswerKept (TooLarge file) = ⊤
IsAnswerKept (TokenFree circuit) = ⊤
IsAnswerKept (NoTransition word) = AreBytes word
IsAnswerKept (Due refusal) = IsDueKept refusal
IsAnswerKept (Log refusal) = IsLogKept refusal
IsAnswerKept (TooLong limit) = IsWord32 limit
IsAnswerKept (Parse refusal) = IsParseKept refusal
IsAnswerKept (Series refusal) = IsSeriesRefusalKept refusal
IsAnswerKept (Fault file) = ⊤

-- the spot that an answer tells, if it tells one, is plain
abbrev pub IsPlain : Answer → Type 0
IsPlain (Read refusal) = HasPlainSpot refusal
IsPlain _ = ⊤

-- an answer about a net, which keeps its rules where it is given
pub record IsAnswerTold (net : Option NetLists) (answer : Answer) : Type 0 where
  pub keeps_rules : IfSome net IsNet
  pub about : IsAbout net answer
  pub kept : IsAnswerKept answer
