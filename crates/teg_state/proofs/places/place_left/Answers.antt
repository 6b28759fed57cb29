use Rattle.std.proofs.Common.{◌^◌}
use Rattle.teg_state.proofs.RunSteps.{dates_few}
use Rattle.teg_state.proofs.places.place_left.Goals as goal

pub ready_dates-requires-clause-dates : goal.ready_dates-requires-clause-dates
ready_dates-requires-clause-dates c = rw c.dates-from.ensures (dates_few c.args.history.now.run c.place-place.result.now.from.index (10 ^ 18) c.requires.dates)
