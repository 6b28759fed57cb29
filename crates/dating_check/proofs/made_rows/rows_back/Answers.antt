use Rattle.std.proofs.Common.{ℕ, ◌≡◌, ◌+◌, ◌-◌, ◌*◌, List, sym, subst, arith}
use Rattle.dioid.specs.declared.dates.Date.{Date}
use Rattle.teg_net.proofs.Reading.{written_back}
use Rattle.dating_check.specs.MadeRows.{AreFrom, IsMade}
use Rattle.dating_check.proofs.made_rows.rows_back.Goals as goal

pub loop-done-init : goal.loop-done-init
loop-done-init c =
    let same : c.args.numbers - 0 ≡ c.args.numbers = omega arith in
    record {
      full = c.in_ok-dates.ensures.full;
      made = λ y latest. rw same (c.in_ok-dates.ensures.made y latest);
      from = c.in_ok-dates.ensures.from;
    }

pub pass_number-requires-clause-from : goal.pass_number-requires-clause-from
pass_number-requires-clause-from c =
    (c.loop-done.done * 4000000000000, omega (arith, c.loop-done-test.true, c.ranges.numbers.fits), rw c.deref_mut.ensures.value c.loop-done.invariant.from)

pub loop-done-preserved : goal.loop-done-preserved
loop-done-preserved c =
    let net = c.args.net.now in
    let rows = c.args.rows.now in
    let n = c.args.numbers in
    let done = c.loop-done.done in
    let new = c.pass_number.new.dates in
    let items = c.loop-done.dates.items in
    let kept = c.loop-done.invariant in
    let vec = c.loop-done.dates.ok in
    let whole = written_back new items c.loop-done.dates.len (omega (arith, c.pass_number.ensures.full, kept.full, vec.0)) in
    let below : n - done - 1 ≡ n - (done + 1) = omega arith in
    let more : done * 4000000000000 + 4000000000000 ≡ (done + 1) * 4000000000000 = omega arith in
    rw whole (record {
      full = c.pass_number.ensures.full;
      made = λ y latest. subst (λ (k : ℕ). IsMade net rows n k 0 y new) below
          (c.pass_number.ensures.made rows y latest (subst (λ (ds : List Date). IsMade net rows n (n - done) 0 y ds) (sym c.deref_mut.ensures.value) (kept.made y latest)));
      from = subst (λ (fall : ℕ). AreFrom fall new) more (c.pass_number.ensures.from (done * 4000000000000) (subst (AreFrom (done * 4000000000000)) (sym c.deref_mut.ensures.value) kept.from));
    })

pub returns-clause-made : goal.returns-clause-made
returns-clause-made c = λ y latest.
    let all : c.args.numbers - c.loop-done.done ≡ 0 = omega (arith, c.loop-done-test.false) in
    subst (λ (k : ℕ). IsMade c.args.net.now c.args.rows.now c.args.numbers k 0 y c.loop-done.dates.items) all (c.loop-done.invariant.made y latest)
