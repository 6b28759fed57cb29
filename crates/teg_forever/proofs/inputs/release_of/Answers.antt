use Rattle.teg_forever.specs.Asked.{IsAskedWith, InputAsked, input_asked}
use Rattle.std.proofs.Common.{◌≡◌}
use Rattle.teg_forever.proofs.Residues.{fine_release, free_alone, no_rows, some_rows}
use Rattle.teg_forever.proofs.inputs.release_of.Goals as goal

pub returns-then-is_empty-clause-release : goal.returns-then-is_empty-clause-release
returns-then-is_empty-clause-release c =
    let m = c.args.due.now in
    let form = rw c.net-net.ensures.value at c.in-Ok.ensures.form in
    let empty = rw c.rows-rows.ensures.value at c.if-is_empty.ensures in
    free_alone m.net m.rows c.args.input.index c.in-Ok.settled form c.in-Ok.ensures.within (no_rows m.rows empty)

pub new-asked-requires : goal.new-asked-requires
new-asked-requires c =
    let given = c.net-net.ensures.given in
    let form = rw c.net-net.ensures.value at c.in-Ok.ensures.form in
    rw (c.net-net.ensures.value, c.rows-rows.ensures.value)
    (record { rules = given.rules; is_live = given.is_live; input = c.requires.input; transfer = form; short = c.in-Ok.ensures.within; ends = given.ends })

pub returns-clause-release : goal.returns-clause-release
returns-clause-release c =
    let m = c.args.due.now in
    let given = c.net-net.ensures.given in
    let form = rw c.net-net.ensures.value at c.in-Ok.ensures.form in
    let a : InputAsked = input_asked m.net c.in-Ok.settled c.args.input m.rows in
    let asked : IsAskedWith a =
    record { rules = given.rules; is_live = given.is_live; input = c.requires.input; transfer = form; short = c.in-Ok.ensures.within; ends = given.ends } in
    let is : c.new-asked.result ≡ a = rw (c.net-net.ensures.value, c.rows-rows.ensures.value) at c.new-asked.ensures in
    let law = c.residuals_are_latest_dates.ensures in
    let some = some_rows m.rows (rw c.rows-rows.ensures.value at c.if-is_empty.ensures) in
    fine_release a asked c.columns_exist.ensures c.in_ok-latest.latest (rw is at c.in_ok-latest.ensures.meet) law.latest law.numbers some c.requires.meet
    c.in_ok-release_by.field-0 c.in_ok-release_by.ensures
