use Rattle.std.proofs.Common.{arith, refl}
use Rattle.std.specs.Prelude.{codes}
use Rattle.teg_outside.proofs.OneLine.{one_line_number}
use Rattle.teg_outside.proofs.lateness.LatenessMonitor.line.Goals as goal

pub returns-clause-one_line : goal.returns-clause-one_line
returns-clause-one_line c = rw c.in_ok-format.ensures.ok (one_line_number (codes "greatest lateness ") c.args.self.now.most refl (omega arith))
