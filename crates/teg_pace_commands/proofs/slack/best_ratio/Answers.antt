use Rattle.std.proofs.Common.{sym, ◌∙◌}
use Rattle.teg_net.specs.GreatestRatios.{HasNoCircuit, IsAnyPlace}
use Rattle.teg_pace_commands.specs.Slack.{IsBestRatio}
use Rattle.teg_pace_commands.proofs.BestRatios.{named_none, named_best, none_is, some_is}
use Rattle.teg_pace_commands.proofs.slack.best_ratio.Goals as goal

pub returns-clause-none : goal.returns-clause-none
returns-clause-none c =
    none_is c.best_ratio.result (HasNoCircuit c.args.net.now IsAnyPlace)
    (λ e. named_none c.args.net.now c.args.answer.now.parts.items c.args.answer.now.best c.requires.of_net (sym c.best_ratio.ensures ∙ e))

pub returns-clause-some : goal.returns-clause-some
returns-clause-some c =
    some_is c.best_ratio.result (IsBestRatio c.args.net.now) (λ r e.
    named_best c.args.net.now c.args.answer.now.part_of.items c.args.answer.now.parts.items c.args.answer.now.best r c.requires.of_net c.requires.parts (sym c.best_ratio.ensures ∙ e))
