use Rattle.latest_laws.proofs.MetByStarts.{zero_meet_by_starts, zero_meet_by_all_starts}
use Rattle.latest_laws.proofs.laws.zero_inputs_meet_by_starts.Goals as goal

pub returns : goal.returns
returns c = record { numbered = zero_meet_by_starts; endless = zero_meet_by_all_starts }
