use Rattle.std.proofs.Common.{lit<, arith, ◌∙◌}
use Rattle.std.proofs.lemmas.Str.Pattern.{split_once_first}
use Rattle.witness_check.proofs.NamedPlaces.{ratio_parts}
use Rattle.witness_check.proofs.names.ratio_in.Goals as goal

pub returns-in_default : goal.returns-in_default
returns-in_default c = λ r terms small low is.
    let cut = split_once_first 47 c.args.word.now c.split_once.result c.split_once.ensures.cases (lit< tt) in
    let none = rw c.in_default.is at cut in
    let parts = ratio_parts r.time r.tokens c.args.word.now is in
    absurd (omega (arith, none, parts.0))

pub returns : goal.returns
returns c = λ r terms small low is.
    let cut = split_once_first 47 c.args.word.now c.split_once.result c.split_once.ensures.cases (lit< tt) in
    let some = rw c.in-Some.is at cut in
    let parts = ratio_parts r.time r.tokens c.args.word.now is in
    c.ratio_of.ensures r terms (c.number_in.ensures r.time small (some.1 ∙ parts.1)) (c.number_in-2.ensures r.tokens low (some.2 ∙ parts.2))
