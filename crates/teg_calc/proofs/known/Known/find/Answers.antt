use Rattle.std.proofs.Common.{◌<◌, List, length, sym, subst, arith}
use Rattle.std.specs.Prelude.{All}
use Rattle.teg_calc.specs.declared.known.Worked.{Worked}
use Rattle.teg_calc.specs.KnownSeries.{IsWorked}
use Rattle.teg_calc.proofs.known.Known.find.Goals as goal

pub answer-requires : goal.answer-requires
answer-requires c =
    let xs = c.deref-worked-items.result.now in
    let low : c.loop-worked.worked-index < length xs = omega arith in
    let all : All IsWorked xs = subst (λ (z : List Worked). All IsWorked z) (sym c.deref-worked-items.ensures.value) c.requires in
    subst IsWorked (sym c.worked-item.is) (all c.loop-worked.worked-index c.worked-item.result low)
