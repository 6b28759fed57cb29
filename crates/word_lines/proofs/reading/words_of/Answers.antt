use Rattle.std.proofs.Common.{◌≡◌, IfOk, List, ℕ, lit<, map, subst}
use Rattle.std.proofs.lemmas.Iterator.Consumers.{map_from_collect}
use Rattle.std.proofs.lemmas.Iterator.Splits.{YieldsList-from_str_split}
use Rattle.word_lines.proofs.Parts.{split_phrase}
use Rattle.word_lines.proofs.reading.words_of.Goals as goal

pub returns : goal.returns
returns c = rw (split_phrase c.args.line.now) at (map_from_collect _ c.collect.ensures.ran (YieldsList-from_str_split 32 c.args.line.now (lit< tt) c.split.ensures.text c.split.ensures.has_more c.split.ensures.pattern))
