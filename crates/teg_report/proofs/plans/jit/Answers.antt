use Rattle.std.proofs.Common.{rules, ◌≡◌, ◌+◌, ◌<◌, [], ◌++◌, List, ℕ, length, refl, ap, sym, ◌∙◌, string_bytes, arith}
use Rattle.std.specs.List.{flat_map, range_with_len}
use Rattle.teg_jit.specs.Plans.{latest_at}
use Rattle.teg_report.specs.PlanLines.{IsLatestKept, numbers_line, planned_lines}
use Rattle.teg_text.specs.Lines.{line_then, written}
use Rattle.teg_text.proofs.Joining.{line_append, written_flat_map}
use Rattle.teg_text.proofs.Listing.{all_below, more_after}
use Rattle.teg_report.proofs.plans.jit.Goals as goal

pub loop-index-preserved : goal.loop-index-preserved
loop-index-preserved c =
    let net = c.args.net.now in
    let plan = c.args.plan.now in
    let t = c.loop-index.index in (
      more_after (λ t. written (planned_lines net plan t)) _ _ _ _ 0 t t (omega arith) c.in_ok-push_transition.ensures.text refl c.loop-index.invariant.0,
      all_below (λ t. (k : ℕ) → k < plan.numbers → IsLatestKept (latest_at plan t (k + 1))) t c.loop-index.invariant.1 c.in_ok-push_transition.ensures.kept,
    )

pub returns-clause-text : goal.returns-clause-text
returns-clause-text c =
    let net = c.args.net.now in
    let plan = c.args.plan.now in
    let count = length net.transitions in
    let blocks = flat_map (planned_lines net plan) (range_with_len 0 count) in
    let all : c.loop-index.index ≡ count = omega (arith, c.loop-index-test.false, c.loop-index.auto.index-end, ap length c.transitions-index-end.ensures.value) in
    let bytes : c.into_bytes.result.items ≡ string_bytes c.loop-index.text = search rules in
    let head : string_bytes c.in_ok-text.text ≡ line_then (numbers_line plan.numbers) [] = rw (← c.numbers-numbers.ensures.value) c.in_ok-text.ensures.ok in
    bytes ∙ (rw all at c.loop-index.invariant.0
    ∙ (ap (λ (l : List ℕ). l ++ flat_map (λ t. written (planned_lines net plan t)) (range_with_len 0 count)) head
    ∙ (ap (λ (l : List ℕ). line_then (numbers_line plan.numbers) [] ++ l) (sym (written_flat_map (planned_lines net plan) (range_with_len 0 count)))
    ∙ sym (line_append (numbers_line plan.numbers) (written blocks)))))

pub returns-clause-kept : goal.returns-clause-kept
returns-clause-kept c = record {
  sizes = c.numbers-numbers.ensures.limits;
  each = λ t k l m. c.loop-index.invariant.1 t (omega (arith, l, c.requires.width, c.loop-index-test.false, ap length c.transitions-index-end.ensures.value)) k m;
}
