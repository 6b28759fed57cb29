-- What is said of the times from the inputs of a live net to its outputs.
use Rattle.std.specs.Prelude.{ℕ, ◌≡◌, ◌⊎◌, List, All, Some}
use Rattle.teg_net.specs.Nets.{NetLists}
use Rattle.teg_report.specs.SettledTexts.{AreTimesKept, TimesFrom, transfer_lines}
use Rattle.teg_outcome.specs.declared.outcome.Verdict.{Verdict}
use Rattle.teg_outcome.specs.declared.outcome.Verdict.TheVariants.{Done as VerdictDone}
use Rattle.teg_date_commands.specs.CommandDates.{SaysTooLong}
use Rattle.teg_transfer.specs.TimesFromInputs.{AreTimesFrom, TimesSettlePast}
use Rattle.teg_report.specs.teg_text.Lines.{written}

-- of a live net the times from each input to each output are said, or that those of an input settle past the limit
abbrev pub SaysTransfer : ℕ → NetLists → Verdict → List ℕ → Type 0
SaysTransfer limit net verdict text =
    ((verdict ≡ VerdictDone) × ((times : List TimesFrom) × AreTimesFrom net limit times × All AreTimesKept times × (text ≡ written (transfer_lines net times))))
    ⊎ SaysTooLong (TimesSettlePast net) (Some limit) verdict text
