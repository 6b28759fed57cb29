use Rattle.std.proofs.Common.{sym, subst}
use Rattle.delay_laws.specs.PlannedTimetables.{IsDelayOf}
use Rattle.delay_check.specs.ShownDelays.{IsSomewhereLeft}
use Rattle.delay_check.proofs.Given.{given_is}
use Rattle.delay_check.proofs.Passing.{given_left}
use Rattle.delay_check.proofs.left.take.Goals as goal

pub raise-requires-clause-late : goal.raise-requires-clause-late
raise-requires-clause-late c =
    let net = c.args.net.now in
    let table = c.args.table.now in
    let own = c.index-delay.result.now in
    let of = subst (IsDelayOf net) (sym c.index-delay.ensures) (c.requires.table.delays_in c.args.index own c.requires.index) in
    subst (IsSomewhereLeft net c.args.period table own.transition.index)
    (given_is table.delays.items c.args.index own c.requires.table.one_delay c.requires.index (sym c.index-delay.ensures))
    (given_left net c.args.period table own.transition.index own.number c.paths_pass_delays_on.ensures.given of.transition_in of.number_some)
