use Rattle.std.proofs.Common.{take}
use Rattle.whatif.specs.Cuts.{IsBestCut}
use Rattle.whatif.proofs.cuts.best_of.Given as goal

abbrev pub invariant-loop-cut : goal.invariant-loop-cut
invariant-loop-cut l = IsBestCut l.held (take l.cut-index l.cuts) l.best
