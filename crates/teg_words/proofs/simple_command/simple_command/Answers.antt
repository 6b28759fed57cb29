use Rattle.std.proofs.Common.{ap₂, ◌∙◌}
use Rattle.std.proofs.lemmas.Result.{IfOk-weaker}
use Rattle.clap.specs.Words.{with_rule}
use Rattle.teg_words.proofs.simple_command.simple_command.Goals as goal

pub returns : goal.returns
returns c =
    let three = c.in_ok-command-2.ensures ∙ ap₂ with_rule c.in_ok-command.ensures c.limit_arg.ensures.rule in
    IfOk-weaker c.with_arg-2.result _ _ (λ r h. h ∙ ap₂ with_rule three c.rounds_arg.ensures.rule) c.with_arg-2.ensures
