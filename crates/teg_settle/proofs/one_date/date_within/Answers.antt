use Rattle.std.proofs.Common.{arith, subst, sym}
use Rattle.teg_settle.specs.LeastDates.{IsLeastDate}
use Rattle.teg_settle.proofs.Owning.{own_waits}
use Rattle.teg_settle.proofs.OneDate.{told_date, row_date}
use Rattle.teg_settle.proofs.Steps.{rows_of_own, own_rows, shows_no_form}
use Rattle.teg_settle.proofs.one_date.date_within.Goals as goal

pub ready_tokens-most-requires-clause-waits : goal.ready_tokens-most-requires-clause-waits
ready_tokens-most-requires-clause-waits c = own_waits c.args.net.now c.in_ok-releases.releases c.in_ok-releases.ensures.waits

pub search-requires-clause-rows : goal.search-requires-clause-rows
search-requires-clause-rows c =
    rows_of_own c.args.net.now c.in_ok-releases.releases c.in_ok-releases.ensures c.args.rows c.count-start.ensures.limits c.requires.rows (omega (arith, c.requires.more, c.requires.few))

pub returns-in-Some : goal.returns-in-Some
returns-in-Some c =
    let net = c.args.net.now in
    let own = c.in_ok-releases.ensures in
    let t = c.args.transition.index in
    let k = c.args.number in
    subst (IsLeastDate net t k) (sym c.date.ensures.value)
    (told_date net c.in_ok-releases.releases own.tokens own.waits c.in_ok-dates-in-Some.dates c.in_ok-dates-in-Some.ensures.form t k c.requires.transition c.requires.first)

pub returns-then-number-count : goal.returns-then-number-count
returns-then-number-count c =
    let net = c.args.net.now in
    let r = c.in_ok-releases.releases in
    let own = c.in_ok-releases.ensures in
    let searched = c.in_ok-searched.ensures in
    let unseen = rw c.in-None.is at searched.shown in
    let most = c.ready_tokens-most in
    let rows = c.in_ok-searched.searched.rows in
    let all = unseen.all in
    let past = c.if-number-count.true in
    let count = c.count.ensures.value in
    let more = c.requires.more in
    let whole = unseen.within (omega (arith, more, past, all, count)) in
    record {
      least = own_rows net r own most.result searched.ready rows searched.rows;
      all = omega (arith, past, all, whole, count);
      before = omega (arith, past, count);
      none = shows_no_form net r own most.result searched.ready rows.count most.ensures.few (unseen.refuted (omega (arith, past, all, more, count)));
    }

pub returns : goal.returns
returns c =
    let net = c.args.net.now in
    let r = c.in_ok-releases.releases in
    let own = c.in_ok-releases.ensures in
    let searched = c.in_ok-searched.ensures in
    let t = c.args.transition.index in
    let k = c.args.number in
    let few = c.if-number-count.false in
    subst (IsLeastDate net t k) (sym c.date-in-None.ensures)
    (row_date net r own.tokens own.waits c.ready_tokens-most.result searched.ready
    c.in_ok-searched.searched.rows searched.rows t k c.requires.transition c.requires.first (omega (arith, few, c.count.ensures.value)))
