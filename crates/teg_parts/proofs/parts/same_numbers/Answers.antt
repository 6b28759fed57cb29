use Rattle.std.proofs.lemmas.Slice.Eq.{slice_eq-Decides}
use Rattle.std.proofs.lemmas.Bool.Decides.{Decides-eqb}
use Rattle.teg_parts.proofs.parts.same_numbers.Goals as goal

pub returns : goal.returns
returns c = slice_eq-Decides Decides-eqb c.args.first.now c.args.second.now c.eq.result c.eq.ensures
