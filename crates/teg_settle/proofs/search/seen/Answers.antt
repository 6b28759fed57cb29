use Rattle.std.proofs.Common.{◌≡◌, ◌<◌, ◌≤◌, ◌∙◌, length, sym, ap, false, arith, ⊎_elim}
use Rattle.std.proofs.lemmas.Bool.{cases_lt}
use Rattle.std.proofs.lemmas.List.{get_or_read}
use Rattle.teg_net.proofs.Reading.{written_back}
use Rattle.teg_settle.proofs.Tested.{seen_is_least, window_of}
use Rattle.teg_settle.proofs.search.seen.Goals as goal

pub loop-index-preserved-then-index : goal.loop-index-preserved-then-index
loop-index-preserved-then-index c =
    let h = c.loop-index.invariant in
    let i = c.loop-index.index in
    let within = c.loop-index-test.true in
    let full = h.count in
    let read = get_or_read c.loop-index.struck.items i c.index.result.now (omega arith) c.index.ensures false in
    record {
      count = h.count;
      struck = h.struck;
      tried = λ p o l. ⊎_elim
          (λ (q : p < i). h.tried p o q)
          (λ (q : i ≤ p). let is : p ≡ i = omega arith in rw is (h.struck i (omega arith) (sym read ∙ c.if-index.true)))
          (cases_lt p i);
    }

pub tried-requires : goal.tried-requires
tried-requires c =
    let some = c.requires.ready.some in
    let count = c.count-count.ensures.value in
    let test = c.loop-index-test.true in
    let one = c.loop-index.auto.index in
    record {
      ready = c.requires.ready;
      made = c.requires.rows;
      window = window_of c.args.asked.now.net.now c.args.asked.now.releases.now c.args.asked.now.most c.requires.ready c.args.rows.now c.requires.rows c.loop-index.index (omega arith) (omega arith);
      fits = omega arith;
    }

pub returns-in-Ok : goal.returns-in-Ok
returns-in-Ok c =
    let found = rw c.in-Ok.is at c.tried.ensures in
    seen_is_least c.args.asked.now.net.now c.args.asked.now.releases.now c.args.rows.now c.args.asked.now.most c.loop-index.index c.in-Ok.after c.loop-index.auto.index found c.loop-index.invariant.tried

pub strike_by-requires-clause-struck : goal.strike_by-requires-clause-struck
strike_by-requires-clause-struck c = rw c.deref_mut.ensures.value c.loop-index.invariant.struck

pub loop-index-preserved : goal.loop-index-preserved
loop-index-preserved c =
    let h = c.loop-index.invariant in
    let i = c.loop-index.index in
    let refuted = rw c.in-Err.is at c.tried.ensures in
    let vec = c.loop-index.struck.ok in
    let long = c.in_ok-strike_by-in-Err.ensures.length ∙ ap length c.deref_mut.ensures.value in
    let whole = written_back c.strike_by.new.struck c.loop-index.struck.items c.loop-index.struck.len (omega (arith, long, vec.0)) in
    rw whole (record {
      count = long ∙ h.count;
      struck = c.in_ok-strike_by-in-Err.ensures.struck;
      tried = λ p o l. ⊎_elim
          (λ (q : p < i). h.tried p o q)
          (λ (q : i ≤ p). let is : p ≡ i = omega arith in rw is refuted)
          (cases_lt p i);
    })

pub returns : goal.returns
returns c = λ period x l after step rep fits.
    let one = rep.at_least_one in
    let over = c.loop-index-test.false in
    let count = c.count-count.ensures.value in
    c.loop-index.invariant.tried period one (omega arith) x l after step rep fits
