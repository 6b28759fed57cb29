use Rattle.std.proofs.Common.{◌+◌, ap, length, inl, inr, arith}
use Rattle.teg_state.proofs.JoinedLists.{joined_at, begun_at, not_begun, within_at}
use Rattle.teg_state.proofs.FarLists.{far_at, far_end, not_searched, search_more}
use Rattle.teg_state.proofs.inputs.dates_left.Goals.{then-now-date, else-now-date}
use Rattle.teg_state.proofs.inputs.dates_left.Goals as goal

pub loop-count-init : goal.loop-count-init
loop-count-init c = record {
  count = ap length c.new-dates.ensures.items;
  few = omega arith;
  begun = not_begun c.args.net.now c.args.history.now.run c.args.now c.args.list.now.transition.index c.new-dates.result.items c.new-dates.ensures.items;
  searched = not_searched c.args.net.now c.args.history.now.run c.args.now c.args.list.now;
}

pub returns-then-is_joined-clause-dates : goal.returns-then-is_joined-clause-dates
returns-then-is_joined-clause-dates c =
    joined_at c.args.net.now c.args.history.now.run c.args.now c.args.list.now c.loop-count.dates.items c.loop-count.clear (length c.as_slice.result.now) c.fired-fired.result
    c.loop-count.count c.requires.own c.loop-count.invariant.begun (ap length c.as_slice.ensures) c.fired-fired.ensures.count c.loop-count.invariant.count
    (c.is_joined.ensures.0 c.if-is_joined.true)

pub returns-then-is_joined-clause-limits : goal.returns-then-is_joined-clause-limits
returns-then-is_joined-clause-limits c =
    within_at c.args.list.now.again c.loop-count.dates.items (length c.as_slice.result.now) (c.fired-fired.result + c.loop-count.count) c.loop-count.count c.loop-count.clear
    c.loop-count.invariant.count (omega arith) c.loop-count.invariant.begun.early (c.is_joined.ensures.0 c.if-is_joined.true)

pub loop-count-preserved : goal.loop-count-preserved
loop-count-preserved c =
    let begun =
    begun_at c.args.net.now c.args.history.now.run c.args.now c.args.list.now.transition.index c.fired-fired.result c.loop-count.count c.loop-count.dates.items c.loop-count.clear
    c.if-now-date.clear c.in-Some.date c.loop-count.invariant.begun c.fired-fired.ensures.count c.loop-count.invariant.count c.in-Some.ensures.date c.in-Some.ensures.near
    (elim c.if-now-date.branch [
      | then-now-date w ↦ inr (w.clear-is, w.if-now-date.true)
      | else-now-date w ↦ inl w.clear-is
    ]) in
    rw (c.in_ok-push.ensures.items, c.max.ensures)
    (record {
      count = begun.0;
      few = begun.1;
      begun = begun.2;
      searched =
          search_more c.args.net.now c.args.history.now.run c.args.now c.args.list.now (length c.as_slice.result.now) c.fired-fired.result c.loop-count.count c.loop-count.clear
          c.if-now-date.clear c.in-Some.date c.loop-count.invariant.few c.loop-count.invariant.searched (ap length c.as_slice.ensures) c.fired-fired.ensures.count
          (λ h. let yes = c.is_joined.ensures.1 h in let no = c.if-is_joined.false in absurd (cc))
          c.in-Some.ensures.date
          (elim c.if-now-date.branch [
            | then-now-date w ↦ inr (w.clear-is, w.if-now-date.true)
            | else-now-date w ↦ inl (w.clear-is, omega (arith, w.if-now-date.false))
          ]);
    })

pub returns-in_default-clause-refusal : goal.returns-in_default-clause-refusal
returns-in_default-clause-refusal c = (
  c.requires.left,
  c.requires.near,
  far_at c.args.net.now c.args.history.now.run c.args.now c.args.list.now (length c.as_slice.result.now) c.fired-fired.result c.loop-count.count c.loop-count.clear
      c.requires.own c.loop-count.invariant.few c.loop-count.invariant.searched (ap length c.as_slice.ensures) c.fired-fired.ensures.count
      (λ h. let yes = c.is_joined.ensures.1 h in let no = c.if-is_joined.false in absurd (cc))
      c.in_default.ensures.far,
)

pub returns-clause-refusal : goal.returns-clause-refusal
returns-clause-refusal c = (
  c.requires.left,
  c.requires.near,
  far_end c.args.net.now c.args.history.now.run c.args.now c.args.list.now c.loop-count.count c.loop-count.clear c.requires.own (omega arith) c.loop-count.invariant.searched,
)
