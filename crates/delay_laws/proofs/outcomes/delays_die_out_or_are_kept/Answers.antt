use Rattle.delay_laws.proofs.Keeping.{delays_die_out_or_are_kept, no_delays_die_out_and_are_kept}
use Rattle.delay_laws.proofs.outcomes.delays_die_out_or_are_kept.Goals as goal

pub returns : goal.returns
returns c = record { either = delays_die_out_or_are_kept; not_both = no_delays_die_out_and_are_kept }
