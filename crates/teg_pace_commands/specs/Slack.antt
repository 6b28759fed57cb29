-- What is said of the slack of the places of a live net.
use Rattle.std.specs.Prelude.{All, ℕ, ◌≡◌, ◌⊎◌, List}
use Rattle.teg_critical.specs.declared.slacks.Slack.{Slack}
use Rattle.teg_critical.specs.Slacks.{AreSlacks}
use Rattle.teg_net.specs.GreatestRatios.{IsGreatestRatio, IsAnyPlace, HasNoCircuit}
use Rattle.teg_net.specs.Nets.{NetLists}
use Rattle.teg_net.specs.Ratios.{Fraction, IsLowestTerms}
use Rattle.teg_outcome.specs.declared.outcome.Verdict.{Verdict}
use Rattle.teg_outcome.specs.declared.outcome.Verdict.TheVariants.{Done as VerdictDone}
use Rattle.teg_pace_commands.specs.CycleTexts.{no_circuit_text}
use Rattle.teg_report.specs.SlackLines.{IsRatioKept, IsSlackKept, slack_lines}
use Rattle.teg_report.specs.teg_text.Lines.{written}

-- the greatest ratio of the net, in lowest terms
pub record IsBestRatio (net : NetLists) (r : Fraction) : Type 0 where
  pub greatest : IsGreatestRatio net IsAnyPlace r
  pub terms : IsLowestTerms r

-- of a live net with a circuit the greatest ratio is said, and of each place its slack
abbrev pub SaysSlacks : NetLists → List ℕ → Type 0
SaysSlacks net text =
    (r : Fraction) × (slacks : List Slack) × IsBestRatio net r × AreSlacks net r slacks × IsRatioKept r × All IsSlackKept slacks
    × (text ≡ written (slack_lines net r slacks))

-- of a live net the slack of its places is said, or that it has no circuit
abbrev pub SaysSlack : NetLists → Verdict → List ℕ → Type 0
SaysSlack net verdict text = (verdict ≡ VerdictDone) × (SaysSlacks net text ⊎ (HasNoCircuit net IsAnyPlace × (text ≡ no_circuit_text)))
