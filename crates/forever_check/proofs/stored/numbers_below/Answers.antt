use Rattle.std.proofs.Common.{ℕ, List, [], ◌∷◌, ◌++◌, ◌≡◌, sym, ap, ◌∙◌, arith}
use Rattle.std.specs.List.{range_with_len}
use Rattle.std.proofs.lemmas.List.{map-id}
use Rattle.std.proofs.lemmas.List.FromFn.{map-range_with_len_more}
use Rattle.forever_check.proofs.stored.numbers_below.Goals as goal

pub loop-number-preserved : goal.loop-number-preserved
loop-number-preserved c =
    let n = c.loop-number.number in
    c.in_ok-push.ensures.items ∙ (ap (λ (l : List ℕ). l ++ n ∷ []) c.loop-number.invariant ∙ sym (map-range_with_len_more (λ (i : ℕ). i) 0 n n (omega arith)))

pub returns : goal.returns
returns c =
    let all : c.loop-number.number ≡ c.args.count = omega (arith, c.loop-number-test.false, c.loop-number.auto.number-end) in
    c.loop-number.invariant ∙ (map-id (range_with_len 0 c.loop-number.number) ∙ ap (range_with_len 0) all)
