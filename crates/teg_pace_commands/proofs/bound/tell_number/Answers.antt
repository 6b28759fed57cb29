use Rattle.std.proofs.Common.{inl, ◌∙◌}
use Rattle.teg_settle.specs.settled_laws.SettledForms.{IsSettledFormOf}
use Rattle.teg_bound.specs.ReturningRows.{IsShortestRepetition}
use Rattle.teg_pace_commands.proofs.bound.tell_number.Goals as goal

pub returns : goal.returns
returns c =
    let h : IsShortestRepetition c.args.net.now c.in_ok-settled.settled = c.in_ok-settled.ensures in
    let form : IsSettledFormOf c.args.net.now h.form = h.is in
    let within = (c.requires.keeps form.0 form.1 h.form form.2).after in
    let told = rw (← h.after, ← h.period) at c.in_ok-text.ensures.told in
    let text = c.told.ensures.text ∙ (rw (← h.after, ← h.period) at c.in_ok-text.ensures.text) in
    (c.told.ensures.verdict, inl (c.args.number, h.form, c.requires, form, within, told, text))
