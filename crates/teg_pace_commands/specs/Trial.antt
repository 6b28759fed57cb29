-- What is said of the line of machines.
use Rattle.std.specs.Prelude.{ℕ, ◌-◌, ◌≡◌, List, sum_by, length}
use Rattle.teg_report.specs.dioid.declared.dates.Date.{Date}
use Rattle.teg_critical.specs.declared.slacks.Slack.{Slack}
use Rattle.teg_critical.specs.declared.slacks.Slack.TheVariants.{NoCircuit, Critical, Rise}
use Rattle.teg_critical.specs.Slacks.{AreSlacks}
use Rattle.teg_report.specs.teg_model.Datings.{IsLeastDating}
use Rattle.teg_net.specs.Ratios.{Fraction}
use Rattle.trial_net.specs.Trials.{trial}
use Rattle.teg_outcome.specs.declared.outcome.Verdict.{Verdict}
use Rattle.teg_outcome.specs.declared.outcome.Verdict.TheVariants.{Done as VerdictDone}
use Rattle.teg_pace_commands.specs.Slack.{IsBestRatio}
use Rattle.teg_report.specs.SlackLines.{IsTrialKept, trial_lines}
use Rattle.teg_report.specs.teg_text.Lines.{written}

-- 1 where a place is critical
abbrev pub one_critical : Slack → ℕ
one_critical NoCircuit = 0
one_critical Critical = 1
one_critical (Rise by) = 0

-- how many places are critical
abbrev pub critical_count : List Slack → ℕ
critical_count slacks = sum_by one_critical slacks

-- the firing of its last machine of which the line tells the date
abbrev pub trial_number : ℕ
trial_number = 1000

-- of the line of so many machines it is said how many places it has, its greatest ratio, how many places are critical, and the
-- least date of firing 1,000 of its last machine
abbrev pub SaysTrial : ℕ → Verdict → List ℕ → Type 0
SaysTrial machines verdict text =
    (verdict ≡ VerdictDone)
    × ((r : Fraction) × (slacks : List Slack) × (x : ℕ → ℕ → Date) × IsBestRatio (trial machines) r × AreSlacks (trial machines) r slacks
    × IsLeastDating (trial machines) x × IsTrialKept machines (length (trial machines).places) r (critical_count slacks) (x (machines - 1) trial_number)
    × (text ≡ written (trial_lines machines (length (trial machines).places) r (critical_count slacks) (x (machines - 1) trial_number))))
