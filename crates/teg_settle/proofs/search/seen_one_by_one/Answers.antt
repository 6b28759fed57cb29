use Rattle.std.proofs.Common.{◌≡◌, ◌<◌, ◌≤◌, arith, ⊎_elim}
use Rattle.std.proofs.lemmas.Bool.{cases_lt}
use Rattle.teg_settle.proofs.Tested.{seen_is_least, window_of}
use Rattle.teg_settle.proofs.search.seen_one_by_one.Goals as goal

pub tried-requires : goal.tried-requires
tried-requires c =
    let some = c.requires.ready.some in
    let count = c.count-count.ensures.value in
    let test = c.loop-period-test.true in
    record {
      ready = c.requires.ready;
      made = c.requires.rows;
      window = window_of c.args.asked.now.net.now c.args.asked.now.releases.now c.args.asked.now.most c.requires.ready c.args.rows.now c.requires.rows c.loop-period.period (omega arith) (omega arith);
      fits = omega arith;
    }

pub returns-in-Ok : goal.returns-in-Ok
returns-in-Ok c =
    let found = rw c.in-Ok.is at c.tried.ensures in
    seen_is_least c.args.asked.now.net.now c.args.asked.now.releases.now c.args.rows.now c.args.asked.now.most c.loop-period.period c.in-Ok.after (omega arith) found c.loop-period.invariant

pub loop-period-preserved : goal.loop-period-preserved
loop-period-preserved c = λ p o l.
    ⊎_elim
    (λ (q : p < c.loop-period.period). c.loop-period.invariant p o q)
    (λ (q : c.loop-period.period ≤ p).
    let is : p ≡ c.loop-period.period = omega arith in
    rw is (rw c.in-Err.is at c.tried.ensures))
    (cases_lt p c.loop-period.period)

pub returns : goal.returns
returns c = λ period x l after step rep fits.
    let one = rep.at_least_one in
    let over = c.loop-period-test.false in
    let count = c.count-count.ensures.value in
    c.loop-period.invariant period one (omega arith) x l after step rep fits
