use Rattle.std.proofs.Common.{◌≡◌, ◌/◌, ◌%◌, length, arith}
use Rattle.dating_certificates.proofs.WholeRows.{no_rest, count_is}
use Rattle.dating_certificates.proofs.rows.rows_of.Goals as goal
use Rattle.dating_certificates.proofs.rows.rows_of.Goals.{else-dates-width-eq0-via-then-dates-width-eq0+else-rows-le-GREATEST_FIRING_NUMBER, else-dates-width-eq0-via-else-dates-width-eq0}

pub returns-else-dates-width-eq0-clause-none : goal.returns-else-dates-width-eq0-clause-none
returns-else-dates-width-eq0-clause-none c = λ rows h.
    let net = c.args.net.now in
    let dates = c.args.dates.now in
    let own = c.transitions-width.ensures.value in
    let rest : length dates % length c.transitions-width.result.now ≡ 0 = rw own (no_rest net dates rows h) in
    let count : length dates / length c.transitions-width.result.now ≡ rows = rw own (count_is net dates rows c.transitions-width.ensures.rules h) in
    let few = h.few in
    elim c.else-dates-width-eq0.branch [
      | else-dates-width-eq0-via-then-dates-width-eq0+else-rows-le-GREATEST_FIRING_NUMBER w ↦ absurd (omega (arith, count, few, w.if-rows-le-GREATEST_FIRING_NUMBER))
      | else-dates-width-eq0-via-else-dates-width-eq0 w ↦ absurd (omega (arith, rest, w.if-dates-width-eq0))
    ]
