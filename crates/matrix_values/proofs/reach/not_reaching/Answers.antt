use Rattle.std.proofs.Common.{sym, ◌∙◌}
use Rattle.matrix_values.proofs.ReachLaws.{all_reached, back_unreached}
use Rattle.matrix_values.proofs.reach.not_reaching.Goals as goal

pub not_reached-requires : goal.not_reached-requires
not_reached-requires c = c.in_ok-turned.ensures.rows_are ∙ (sym c.requires.square ∙ sym c.in_ok-turned.ensures.columns_are)

pub returns-in-Some : goal.returns-in-Some
returns-in-Some c =
    back_unreached c.args.a.now c.in_ok-turned.turned c.requires.square c.in_ok-turned.ensures.rows_are c.in_ok-turned.ensures.entries c.in-Some.from
    (rw c.in-Some.is at c.in_ok-from.ensures)

pub returns : goal.returns
returns c =
    all_reached c.args.a.now c.in_ok-turned.turned c.requires.square c.in_ok-turned.ensures.rows_are c.in_ok-turned.ensures.entries c.requires.onward
    (rw c.in-None.is at c.in_ok-from.ensures)
