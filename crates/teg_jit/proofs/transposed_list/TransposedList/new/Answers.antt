use Rattle.std.proofs.Common.{◌≡◌, arith}
use Rattle.teg_jit.proofs.Transposing.{transposed_all}
use Rattle.teg_jit.proofs.transposed_list.TransposedList.new.Goals as goal

pub returns : goal.returns
returns c =
    let end : c.loop-number.number ≡ c.args.numbers = omega (arith, c.loop-number-test.false, c.loop-number.auto.number-end) in
    transposed_all c.args.width c.args.numbers c.args.dates.now c.loop-number.columns c.requires.full (rw end at c.loop-number.invariant)
