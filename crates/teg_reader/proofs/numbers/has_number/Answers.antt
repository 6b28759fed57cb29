use Rattle.std.proofs.Common.{◌∙◌}
use Rattle.teg_reader.proofs.NumberLemmas.{any_deref}
use Rattle.teg_reader.proofs.numbers.has_number.Goals as goal

pub returns : goal.returns
returns c = c.is_some.ensures ∙ (c.get_index_of.ensures.found ∙ any_deref c.args.text.now c.args.names.now.keys)
