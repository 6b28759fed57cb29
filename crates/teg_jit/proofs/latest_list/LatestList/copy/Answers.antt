use Rattle.std.proofs.Common.{◌<◌, length, set, get_or, map, sym, subst, ap, ◌∙◌, arith}
use Rattle.std.proofs.lemmas.List.{length-map}
use Rattle.teg_jit.specs.declared.answers.LatestDate.TheVariants.{Free}
use Rattle.teg_jit.specs.LatestCells.{latest_of}
use Rattle.teg_jit.proofs.Packing.{cell_copied}
use Rattle.teg_jit.proofs.latest_list.LatestList.copy.Goals as goal

pub returns : goal.returns
returns c =
    let other = c.from.inside.cells.items in
    let long = length-map other latest_of in
    let at : c.args.at < length (map latest_of other) = subst (λ z. c.args.at < length z) (sym c.from.view_is) c.requires.at in
    cell_copied c.self.inside.cells.items other c.args.index c.args.at c.index.result.now (omega (arith, long, at)) c.index.ensures
    ∙ (ap (λ z. set z c.args.index (get_or (map latest_of other) c.args.at Free)) c.self.view_is ∙ ap (λ z. set c.args.self.now c.args.index (get_or z c.args.at Free)) c.from.view_is)
