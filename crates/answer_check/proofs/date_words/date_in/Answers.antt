use Rattle.std.proofs.Common.{rules}
use Rattle.dioid.specs.declared.dates.Date.TheVariants.{Early, Never}
use Rattle.answer_check.proofs.ReadDates.{known_read}
use Rattle.answer_check.proofs.date_words.date_in.Goals as goal

pub returns-in-epsilon : goal.returns-in-epsilon
returns-in-epsilon c = known_read c.args.word.now Early tt (search rules)

pub returns-in-never : goal.returns-in-never
returns-in-never c = known_read c.args.word.now Never tt (search rules)
