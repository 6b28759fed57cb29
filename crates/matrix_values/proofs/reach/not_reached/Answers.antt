use Rattle.matrix_values.proofs.ReachLaws.{from_first}
use Rattle.matrix_values.proofs.reach.not_reached.Goals as goal

pub returns : goal.returns
returns c =
    from_first c.args.a.now c.requires c.in_ok-marks.marks.items c.in_ok-marks.ensures.reached c.in_ok-marks.ensures.closed c.first_off.result
    (rw c.deref.ensures.value at c.first_off.ensures)
