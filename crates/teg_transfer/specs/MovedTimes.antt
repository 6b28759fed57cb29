-- Working definitions of the times from an input that are those from another one, all so much longer.
use Rattle.std.specs.Prelude.{ℤ, ◌≡◌, List, Contains, map}
use Rattle.teg_report.specs.dioid.Dates.{move}
use Rattle.teg_net.specs.declared.entries.TransitionId.{TransitionId}
use Rattle.teg_net.specs.Nets.{NetLists}
use Rattle.teg_report.specs.declared.answer.TransferFrom.{TransferFrom}
use Rattle.teg_report.specs.AnswerMeanings.{times_from}
use Rattle.teg_report.specs.SettledTexts.{TimesFrom, TimesTo}
use Rattle.teg_lags.specs.Lags.{AreLagged}

-- the times to an output, all so much longer
abbrev pub line_moved : ℤ → TimesTo → TimesTo
line_moved lag line = record { to = line.to; dates = map (move lag) line.dates; step = line.step }

-- the times from another input, all so much longer, as those from this one
abbrev pub times_moved : ℤ → TransitionId → TimesFrom → TimesFrom
times_moved lag input times = record { from = input; after = times.after; period = times.period; lines = map (line_moved lag) times.lines }

-- the times are those of another input, all so much longer, as from this one all is held so much longer
pub record AreMovedFrom (net : NetLists) (input : TransitionId) (other times : TimesFrom) : Type 0 where
  pub lag : ℤ
  pub lagged : AreLagged net other.from.index input.index lag
  pub is : times ≡ times_moved lag input other

-- so of one of these
abbrev pub AreMovedFromOne : NetLists → TransitionId → List TransferFrom → TimesFrom → Type 0
AreMovedFromOne net input all times = (other : TransferFrom) × Contains all other × AreMovedFrom net input (times_from other) times
