use Rattle.std.proofs.Common.{get_or, arith, rules}
use Rattle.std.proofs.lemmas.List.{get_or_default}
use Rattle.std.proofs.lemmas.List.Sorted.{All-permutation, Contains-permutation, IsNonDecreasingBy-from_sort_by_key}
use Rattle.teg_due.specs.declared.rows.DueRow.{DueRow}
use Rattle.teg_jit.specs.DueNumbers.{IsNumbered}
use Rattle.teg_due.proofs.DueOnce.{no_row}
use Rattle.teg_jit.proofs.DueNumbers.{numbered_more}
use Rattle.teg_jit.proofs.due_numbers.by_number.Goals as goal

pub loop-index-preserved : goal.loop-index-preserved
loop-index-preserved c =
    let rows = c.args.rows.now in
    let i = c.loop-index.index in
    let l = c.loop-index-test.true in
    let r : DueRow = get_or rows i no_row in
    rw c.in_ok-push.ensures.items (numbered_more rows c.loop-index.order.items i r c.loop-index.invariant l (λ q. get_or_default rows i q no_row l))

pub returns : goal.returns
returns c =
    let end = c.loop-index-test.false in
    let p = c.in_ok-sort_by_key.ensures.permutation in
    record {
      known = All-permutation (IsNumbered c.args.rows.now) _ _ p c.loop-index.invariant.known;
      all = λ k d l. Contains-permutation _ _ (record { number = (get_or c.args.rows.now k d).number; index = k }) p (c.loop-index.invariant.all k d (omega arith) l);
      sorted = IsNonDecreasingBy-from_sort_by_key (λ o. o.number) _ c.in_ok-sort_by_key.ensures.sorted (λ a r q k. search rules);
    }
