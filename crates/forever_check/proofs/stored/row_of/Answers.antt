use Rattle.std.proofs.Common.{ℕ, List, [], ◌∷◌, ◌++◌, ◌≡◌, ◌+◌, ◌-◌, ◌*◌, slice_index_or, map, sym, ap, ◌∙◌, arith}
use Rattle.std.specs.List.{range_with_len}
use Rattle.std.proofs.lemmas.List.FromFn.{map-range_with_len_more}
use Rattle.dioid.specs.declared.dates.Date.{Date}
use Rattle.dioid.specs.declared.dates.Date.TheVariants.{Early}
use Rattle.dating_certificates.specs.CheckedRows.{date_in_rows}
use Rattle.forever_check.proofs.stored.row_of.Goals as goal

pub loop-before-preserved : goal.loop-before-preserved
loop-before-preserved c =
    let n = c.loop-before.before in
    let f : ℕ → Date = date_in_rows c.args.width c.args.dates.now c.args.transition in
    let same : n ≡ n + 1 - 1 = omega arith in
    let here : c.date_at.result ≡ f (n + 1) =
    c.date_at.ensures ∙ ap (λ (k : ℕ). slice_index_or c.args.dates.now (k * c.args.width + c.args.transition) Early) same in
    c.in_ok-push.ensures.items
    ∙ (ap (λ (l : List Date). l ++ c.date_at.result ∷ []) c.loop-before.invariant
    ∙ (ap (λ (d : Date). map f (range_with_len 1 n) ++ d ∷ []) here ∙ sym (map-range_with_len_more f 1 n (n + 1) (omega arith))))
