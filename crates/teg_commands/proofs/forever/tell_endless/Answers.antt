use Rattle.std.proofs.Common.{inl, ap, ◌∙◌}
use Rattle.teg_net.specs.Nets.{NetLists}
use Rattle.teg_forever.specs.EndlessTexts.{Answered, answer_lines}
use Rattle.std.specs.Prelude.{Ok}
use Rattle.teg_report.specs.teg_text.Lines.{written}
use Rattle.teg_commands.proofs.forever.tell_endless.Goals as goal

pub returns-in_ok-text-in-Ok : goal.returns-in_ok-text-in-Ok
returns-in_ok-text-in-Ok c =
    let same = ap (λ (net : NetLists). written (answer_lines net (Answered (Ok c.deref.result.now)))) c.net-in-Ok.ensures.net
    ∙ ap (λ rs. written (answer_lines c.args.net.now (Answered (Ok rs)))) c.deref.ensures.value in
    inl (c.told.ensures.verdict, (c.in-Ok.releases.items, (rw c.net.ensures.net at c.in-Ok.ensures.releases), c.told.ensures.text ∙ (c.in_ok-text-in-Ok.ensures.text ∙ same)))
