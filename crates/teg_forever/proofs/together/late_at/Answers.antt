use Rattle.std.proofs.Common.{sym, ◌∙◌}
use Rattle.teg_forever.proofs.SearchedRows.{in_time, late_there}
use Rattle.teg_forever.proofs.together.late_at.Goals as goal

pub number_of-least-requires : goal.number_of-least-requires
number_of-least-requires c = c.requires.dates.numbers c.args.row.now.transition.index c.requires.row.in_range

pub returns-then-due-least-clause-some : goal.returns-then-due-least-clause-some
returns-then-due-least-clause-some c =
    late_there c.args.net.now c.args.row.now c.args.number c.due_at-due.result c.number_of-least.result c.due_at-due.ensures.due
    (λ x least. sym (c.requires.dates.least c.args.row.now.transition.index c.requires.row.in_range x least) ∙ c.number_of-least.ensures)
    c.requires.first c.if-due-least.true

pub returns-clause-none : goal.returns-clause-none
returns-clause-none c =
    in_time c.args.net.now c.args.row.now c.args.number c.due_at-due.result c.number_of-least.result c.due_at-due.ensures.due
    (λ x least. sym (c.requires.dates.least c.args.row.now.transition.index c.requires.row.in_range x least) ∙ c.number_of-least.ensures)
    c.if-due-least.false
