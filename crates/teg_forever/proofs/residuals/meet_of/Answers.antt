use Rattle.std.proofs.Common.{◌≤◌, ◌≡◌, ℕ, length, ap, subst, arith}
use Rattle.std.proofs.lemmas.Result.{err_from_is_err_and}
use Rattle.teg_forever.specs.Divisions.{IsMeetOver}
use Rattle.teg_forever.proofs.Dividing.{stopped_at}
use Rattle.teg_forever.proofs.Repeated.{repeated_so_far}
use Rattle.teg_forever.proofs.residuals.meet_of.Goals as goal

pub returns-in_err-meet-clause-stopped : goal.returns-in_err-meet-clause-stopped
returns-in_err-meet-clause-stopped c =
    let p = err_from_is_err_and c.from_residual.result c.from_residual.ensures.1 in
    rw (p.1, p.2)
    (stopped_at c.args.asked.now c.rows-count.ensures.asked c.columns_exist.ensures 0 c.requires.some
    (λ walks dues columns j l. absurd (omega arith)) c.in_err-meet.field-0.0 c.in_err-meet.ensures.refused)

pub returns-in_err-meet-2-clause-stopped : goal.returns-in_err-meet-2-clause-stopped
returns-in_err-meet-2-clause-stopped c =
    let p = err_from_is_err_and c.from_residual-in_err-meet-2.result c.from_residual-in_err-meet-2.ensures.1 in
    let within = rw c.rows-count.ensures.value at c.loop-place-test.true in
    rw (p.1, p.2)
    (stopped_at c.args.asked.now c.rows-count.ensures.asked c.columns_exist.ensures c.loop-place.place within
    (λ walks dues columns. (c.loop-place.invariant.meet.over walks dues columns).fit) c.in_err-meet-2.field-0.0 c.in_err-meet-2.ensures.refused)

pub loop-place-preserved-then-is_as_before : goal.loop-place-preserved-then-is_as_before
loop-place-preserved-then-is_as_before c =
    let a = c.args.asked.now in
    let h = c.loop-place.invariant in
    record {
      divisions = h.divisions;
      meet = repeated_so_far a.net a.rows a.input.index c.loop-place.place c.loop-place.meet (omega arith) h.meet c.if-meet.true (c.is_as_before.ensures c.if-is_as_before.true);
    }

pub returns-clause-meet : goal.returns-clause-meet
returns-clause-meet c =
    let a = c.args.asked.now in
    let whole : length c.rows-count.result.now ≡ length a.rows = ap length c.rows-count.ensures.value in
    let low : length c.rows-count.result.now ≤ c.loop-place.place = c.loop-place-test.false in
    let same : c.loop-place.place ≡ length a.rows = omega arith in
    subst (λ (n : ℕ). IsMeetOver a.net a.rows a.input.index n c.loop-place.meet.gain) same c.loop-place.invariant.meet.over
