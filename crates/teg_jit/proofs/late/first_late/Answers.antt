use Rattle.teg_jit.proofs.LateRows.{bare_least, rows_have_numbers, all_kept, none_map, some_map}
use Rattle.teg_jit.proofs.late.first_late.Goals as goal

pub returns-clause-none : goal.returns-clause-none
returns-clause-none c =
    let net = c.args.net.now in
    let rows = c.args.rows.now in
    let x = rw c.in_ok-bare.ensures at c.in_ok-dates.ensures.exists in
    let least = bare_least net x.0 x.1 in
    let all = rows_have_numbers net c.args.live.now x.0 rows c.deref.result.now c.requires.rules c.requires.stands least c.requires.due c.requires.few
    (rw c.deref.ensures.value (rw c.in_ok-bare.ensures at c.in_ok-dates.ensures.dates x.0 x.1)) in
    none_map c.first_exceeded.result c.first_exceeded.ensures.none (λ kept. all_kept net x.0 rows least (kept x.0 all))

pub returns-clause-some : goal.returns-clause-some
returns-clause-some c =
    let net = c.args.net.now in
    let rows = c.args.rows.now in
    let x = rw c.in_ok-bare.ensures at c.in_ok-dates.ensures.exists in
    let least = bare_least net x.0 x.1 in
    let all = rows_have_numbers net c.args.live.now x.0 rows c.deref.result.now c.requires.rules c.requires.stands least c.requires.due c.requires.few
    (rw c.deref.ensures.value (rw c.in_ok-bare.ensures at c.in_ok-dates.ensures.dates x.0 x.1)) in
    some_map c.first_exceeded.result c.first_exceeded.ensures.some (λ row first. (x.0, least, first x.0 all))
