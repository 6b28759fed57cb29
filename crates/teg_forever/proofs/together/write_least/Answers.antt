use Rattle.std.proofs.Common.{arith}
use Rattle.teg_forever.proofs.SearchedRows.{least_dates}
use Rattle.teg_forever.proofs.together.write_least.Goals as goal

pub returns-clause-least : goal.returns-clause-least
returns-clause-least c =
    let given = c.net.ensures.given in
    least_dates c.args.due.now.net c.args.plain.now given.rules given.is_live c.requires.plain c.zero_inputs_are_no_lists.ensures
    _ _ (omega arith) (omega arith) c.write_next.ensures.row
