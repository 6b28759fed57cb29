use Rattle.std.proofs.Common.{arith}
use Rattle.std.proofs.lemmas.List.{get_or_read}
use Rattle.teg_check.proofs.exits.Exits.last_exit.Goals as goal

pub back-init : goal.back-init
back-init c =
    let t = c.args.transition in
    let h = c.requires.exits in
    let in' = c.requires.transition in
    let read = get_or_read c.args.self.now.passed.items t c.index_mut-passed.result.now (rw h.count in') c.index_mut-passed.ensures.value 0 in
    rw (c.of-places.ensures, read) (h.leaving.each t in', h.no_exits t)

-- where all places are passed over, no exit is left
pub returns-clause-none : goal.returns-clause-none
returns-clause-none c id x =
    let (k, l, is) = c.back.invariant.0.all id x.in_range x.begins in
    c.back.invariant.1 k id l (omega (arith, c.back-test.false)) (rw is x)
