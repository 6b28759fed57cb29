use Rattle.std.proofs.Common.{sym, ◌∙◌}
use Rattle.std.proofs.lemmas.Bool.{false≢true}
use Rattle.endless_laws.proofs.LateRows.{form_has_least, least_of_form}
use Rattle.endless_laws.proofs.late_rows.least_late.Goals as goal

pub returns-in_default-clause-other : goal.returns-in_default-clause-other
returns-in_default-clause-other c = λ due least is.
    c.in_default.ensures.kept due least
    (form_has_least c.args._net.now c.args.form.now c.requires.form c.args.row.now c.requires.row c.window_of-window.result c.window_of-window.ensures.window
    c.args.number due least is).0

pub returns-then-none_late_near-clause-least : goal.returns-then-none_late_near-clause-least
returns-then-none_late_near-clause-least c =
    least_of_form c.args._net.now c.args.form.now c.requires.form c.args.row.now c.requires.row c.window_of-window.result c.window_of-window.ensures.window
    c.args.number c.in-Some.late.due c.in-Some.late.least c.in-Some.ensures.late (c.none_late_near.ensures.0 c.if-none_late_near.true)

pub returns-clause-other : goal.returns-clause-other
returns-clause-other c = λ due least is.
    false≢true
    (sym c.if-none_late_near.false
    ∙ c.none_late_near.ensures.1
    (form_has_least c.args._net.now c.args.form.now c.requires.form c.args.row.now c.requires.row c.window_of-window.result c.window_of-window.ensures.window
    c.args.number due least is).1)
