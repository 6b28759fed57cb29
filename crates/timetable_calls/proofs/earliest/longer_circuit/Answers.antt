use Rattle.timetable_calls.specs.Earliest.{IsBusiestOf}
use Rattle.timetable_calls.proofs.Busiest.{from_ratio_at, too_short}
use Rattle.timetable_calls.proofs.earliest.longer_circuit.Goals as goal

pub returns-then-gives_time-clause-none : goal.returns-then-gives_time-clause-none
returns-then-gives_time-clause-none c =
    let own = c.in_ok-best.ensures in
    let b : IsBusiestOf c.args.net.now c.in-Some.best = rw c.in-Some.is at own in
    from_ratio_at c.args.net.now c.args.scale c.args.period c.in-Some.best.ratio b.greatest (c.gives_time.ensures.yes c.if-gives_time.true)

pub returns-clause-some : goal.returns-clause-some
returns-clause-some c =
    let own = c.in_ok-best.ensures in
    let b : IsBusiestOf c.args.net.now c.in-Some.best = rw c.in-Some.is at own in
    too_short c.args.net.now c.args.scale c.args.period c.in-Some.best b (c.gives_time.ensures.no c.if-gives_time.false)
