use Rattle.std.proofs.Common.{subst, refl, inl, ap, ◌∙◌, ◌∷◌, []}
use Rattle.teg_net.specs.Nets.{NetLists}
use Rattle.teg_report.specs.ShortAnswers.{date_line}
use Rattle.teg_report.specs.teg_text.WordsOfNames.{name_of_transition}
use Rattle.teg_report.specs.teg_text.Lines.{written}
use Rattle.teg_report.specs.teg_text.ValueWords.{IsDate}
use Rattle.teg_date_commands.proofs.dates.tell_date_of.Goals as goal

pub returns-in_ok-text-in-Ok : goal.returns-in_ok-text-in-Ok
returns-in_ok-text-in-Ok c =
    let least = c.in-Ok.ensures.date in
    let t = c.args.transition in
    let k = c.args.number in
    let date = c.in-Ok.date in
    let kept = subst IsDate least.2 (c.in_ok-text-in-Ok.ensures.told tt).kept.1 in
    let text_is = c.in_ok-text-in-Ok.ensures.text ∙ (ap
    (λ (net : NetLists). written (date_line (name_of_transition net t) k date ∷ [])) c.net.ensures.net
    ∙ ap (λ d. written (date_line (name_of_transition c.args.net.now t) k d ∷ [])) least.2) in
    inl (refl, (least.0, least.1, c.in-Ok.ensures.within, kept, text_is))
