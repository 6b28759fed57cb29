use Rattle.std.proofs.Common.{inl, refl, ap, ◌∙◌}
use Rattle.teg_net.specs.Nets.{NetLists}
use Rattle.teg_report.specs.SlackLines.{slack_lines}
use Rattle.teg_report.specs.teg_text.Lines.{written}
use Rattle.teg_pace_commands.proofs.slack.tell_slacks.Goals as goal

pub returns : goal.returns
returns c =
    let kept = (c.in_ok-text.ensures.told tt).kept in
    let told = c.in_ok-text.ensures.text ∙ ap (λ (net : NetLists). written (slack_lines net c.args.ratio.now c.in_ok-slacks.slacks)) c.net.ensures.net in
    (refl, inl (c.args.ratio.now, c.in_ok-slacks.slacks, c.requires.best, c.in_ok-slacks.ensures.slacks c.args.ratio.now c.requires.best.greatest, kept.0, kept.1, told))
