use Rattle.std.proofs.Common.{◌∙◌, sym, arith}
use Rattle.teg_forever.proofs.AloneRows.{tells, is_number}
use Rattle.teg_forever.proofs.alone.next_least.Goals as goal

pub number_of-requires : goal.number_of-requires
number_of-requires c =
    is_number c.args.plain.now.net c.plain.result.now c.plain.ensures.given.rules c.plain.ensures.given.is_live c.plain.ensures.value c.zero_inputs_are_no_lists.ensures
    _ _ c.write_next.ensures.row c.row.result.now.transition.index c.row.ensures.rules.in_range (omega arith)

pub returns-clause-least : goal.returns-clause-least
returns-clause-least c x least =
    rw (← c.row.ensures.value) (sym (tells c.args.plain.now.net c.plain.result.now c.plain.ensures.given.rules c.plain.ensures.given.is_live c.plain.ensures.value c.zero_inputs_are_no_lists.ensures
    _ _ c.write_next.ensures.row c.row.result.now.transition.index c.row.ensures.rules.in_range x least)
    ∙ c.number_of.ensures)
