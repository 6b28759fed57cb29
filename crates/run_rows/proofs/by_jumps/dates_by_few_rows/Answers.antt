use Rattle.std.proofs.Common.{◌+◌, ◌≡◌, arith}
use Rattle.run_rows.proofs.Joining.{joined}
use Rattle.run_rows.proofs.by_jumps.dates_by_few_rows.Goals as goal

pub returns-then-number-reached : goal.returns-then-number-reached
returns-then-number-reached c =
    let reached = c.in_ok-ahead.ahead.reached in
    let told = c.in_ok-ahead.ensures in
    let here : c.args.number ≡ reached.after = omega (arith, told.ahead.few, c.if-number-reached.true) in
    rw here (told.ahead.reached.least told.all)

pub returns : goal.returns
returns c =
    let ahead = c.in_ok-ahead.ahead in
    let reached = ahead.reached in
    let told = c.in_ok-ahead.ensures in
    let past = c.if-number-reached.false in
    let whole : reached.after + ahead.rows.count ≡ c.args.number = omega (arith, told.ahead.few, past) in
    rw c.in_ok-with.ensures (joined c.args.net.now reached.after c.args.number _ c.in_ok-made.made (told.ahead.reached.least told.all) (rw whole at c.in_ok-made.ensures))
