use Rattle.teg_files.proofs.Refusing.{circuit_in_range}
use Rattle.teg_files.proofs.net_file.open_live.Goals as goal

pub report-requires : goal.report-requires
report-requires c = rw c.in-Err.ensures.back (circuit_in_range c.args.net _ (rw c.in-TokenFree.is at c.in-Err.ensures.refusal))
