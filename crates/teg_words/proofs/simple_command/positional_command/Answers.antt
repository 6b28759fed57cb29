use Rattle.std.proofs.Common.{ap₂, ◌∙◌}
use Rattle.std.proofs.lemmas.Result.{IfOk-weaker}
use Rattle.clap.specs.Words.{with_rule}
use Rattle.teg_words.proofs.simple_command.positional_command.Goals as goal

pub returns : goal.returns
returns c =
    let one = c.in_ok-command.ensures ∙ ap₂ with_rule c.bare_command.ensures c.command_arg.ensures.rule in
    IfOk-weaker c.with_arg-2.result _ _ (λ r h. h ∙ ap₂ with_rule one c.rest_arg.ensures.rule) c.with_arg-2.ensures
