use Rattle.std.proofs.Common.{◌*◌, ◌<◌, ◌≤◌, length, get_or, sym, subst, ap, ◌∙◌, arith}
use Rattle.date_rows.proofs.Cells.{rows_below}
use Rattle.teg_jit.specs.declared.answers.LatestDate.TheVariants.{Free}
use Rattle.teg_jit.proofs.Transposing.{transposed_at, transposed_in}
use Rattle.teg_jit.proofs.transposed_list.TransposedList.get.Goals as goal

pub overflow_add-place : goal.overflow_add-place
overflow_add-place c =
    let w = c.self.inside.width in
    let n = c.self.inside.numbers in
    let i = c.args.index in
    let at = transposed_at w n i c.self.inside.columns (subst (λ z. i < length z) (sym c.self.view_is) c.requires) in
    let low = transposed_in w n i at.0 in
    let rows : n * w ≤ 10000 * w = rows_below w n 10000 c.self.invariant.numbers_in in
    omega (arith, low, rows, c.self.invariant.width_in)

pub get-requires : goal.get-requires
get-requires c =
    let w = c.self.inside.width in
    let n = c.self.inside.numbers in
    let i = c.args.index in
    let at = transposed_at w n i c.self.inside.columns (subst (λ z. i < length z) (sym c.self.view_is) c.requires) in
    omega (arith, transposed_in w n i at.0, c.self.invariant.full)

pub returns : goal.returns
returns c =
    let i = c.args.index in
    let at = transposed_at c.self.inside.width c.self.inside.numbers i c.self.inside.columns (subst (λ z. i < length z) (sym c.self.view_is) c.requires) in
    c.get.ensures.value ∙ (at.1 ∙ ap (λ z. get_or z i Free) c.self.view_is)
