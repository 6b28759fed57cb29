use Rattle.std.proofs.Common.{◌≡◌, ◌+◌, [], subst, ap, string_bytes, arith}
use Rattle.std.specs.List.{range_with_len}
use Rattle.teg_jit.specs.declared.answers.LatestDate.{LatestDate}
use Rattle.teg_jit.specs.Plans.{latest_at}
use Rattle.teg_report.specs.PlanLines.{IsLatestKept, latest_line, planned_line}
use Rattle.teg_text.specs.Lines.{line_then}
use Rattle.teg_text.proofs.Joining.{lines_end}
use Rattle.teg_text.proofs.Listing.{all_below, more_after}
use Rattle.teg_report.proofs.plans.push_transition.Goals as goal

pub loop-number-preserved : goal.loop-number-preserved
loop-number-preserved c =
    let net = c.args.net.now in
    let plan = c.args.plan.now in
    let t = c.args.index in
    let k = c.loop-number.number in (
      more_after (λ k. line_then (planned_line net plan t k) []) _ _ _ _ 0 k k (omega arith)
          c.in_ok-push_latest.ensures.text (ap (λ (d : LatestDate). line_then (latest_line net t (k + 1) d) []) c.latest-latest.ensures.value) c.loop-number.invariant.0,
      all_below (λ k. IsLatestKept (latest_at plan t (k + 1))) k c.loop-number.invariant.1 (subst IsLatestKept c.latest-latest.ensures.value c.in_ok-push_latest.ensures.kept),
    )

pub returns-clause-text : goal.returns-clause-text
returns-clause-text c =
    let net = c.args.net.now in
    let plan = c.args.plan.now in
    let t = c.args.index in
    let all : c.loop-number.number ≡ plan.numbers = omega (arith, c.loop-number-test.false, c.loop-number.auto.number-end, c.numbers-number-end.ensures.value) in
    lines_end (planned_line net plan t) (range_with_len 0 plan.numbers) (string_bytes c.args.text.now) _ (rw all at c.loop-number.invariant.0)

pub returns-clause-kept : goal.returns-clause-kept
returns-clause-kept c k l = c.loop-number.invariant.1 k (omega (arith, l, c.loop-number-test.false, c.numbers-number-end.ensures.value))
