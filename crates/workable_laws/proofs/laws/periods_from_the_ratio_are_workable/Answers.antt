use Rattle.workable_laws.proofs.Firsts.{by_firsts, begun_by, are_workable, from_ratio_workable}
use Rattle.workable_laws.proofs.laws.periods_from_the_ratio_are_workable.Goals as goal

pub returns : goal.returns
returns c = record { firsts = by_firsts; begun = begun_by; periods = are_workable; ratios = from_ratio_workable }
