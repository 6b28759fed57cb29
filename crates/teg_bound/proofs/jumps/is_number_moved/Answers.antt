use Rattle.std.proofs.Common.{◌^◌, arith}
use Rattle.periodic_laws.specs.teg_model.DateBounds.{greatest_least_date}
use Rattle.periodic_laws.proofs.teg_model_proofs.Within.{within_more}
use Rattle.teg_bound.proofs.jumps.is_number_moved.Goals as goal

pub step_between-requires-clause-early : goal.step_between-requires-clause-early
step_between-requires-clause-early c = within_more greatest_least_date (2 ^ 126) c.date.result (omega arith) c.date.ensures.within

pub step_between-requires-clause-late : goal.step_between-requires-clause-late
step_between-requires-clause-late c = within_more greatest_least_date (2 ^ 126) c.date-in-loop-index.result (omega arith) c.date-in-loop-index.ensures.within
