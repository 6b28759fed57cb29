use Rattle.std.proofs.Common.{◌+◌, sym, ◌∙◌}
use Rattle.teg_reader.proofs.DateLemmas.{no_fall_left}
use Rattle.teg_reader.proofs.input_lists.first_fall.Goals as goal

pub returns : goal.returns
returns c = sym (no_fall_left c.args.dates.now c.loop-index.index (c.loop-index.index + 1) c.loop-index-test.false) ∙ c.loop-index.invariant
