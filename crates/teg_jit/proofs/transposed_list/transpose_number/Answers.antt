use Rattle.teg_jit.proofs.Transposing.{transposed_more}
use Rattle.teg_jit.proofs.transposed_list.transpose_number.Goals as goal

pub loop-transition-preserved : goal.loop-transition-preserved
loop-transition-preserved c =
    rw c.copy.ensures
    (transposed_more c.args.width c.args.numbers c.args.number c.loop-transition.transition c.args.dates.now c.loop-transition.columns
    c.requires.number c.loop-transition-test.true c.loop-transition.invariant)
