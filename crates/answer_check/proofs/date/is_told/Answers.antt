use Rattle.std.proofs.Common.{rules}
use Rattle.answer_check.proofs.date.is_told.Goals as goal

pub returns : goal.returns
returns c = λ within. (let read = c.in_ok-told.ensures c.args.date within in (λ yes. read.0 (search rules), λ is. (let same = read.1 is in search rules)))
