use Rattle.std.proofs.Common.{ℕ, List, [], ◌∷◌, ◌++◌, map, sym, ap, ◌∙◌, arith, Vec, Global}
use Rattle.std.specs.List.{range_with_len}
use Rattle.std.proofs.lemmas.List.{map-append}
use Rattle.std.proofs.lemmas.List.FromFn.{map-range_with_len_more}
use Rattle.dioid.specs.declared.dates.Date.{Date}
use Rattle.dating_certificates.specs.CheckedRows.{date_in_rows}
use Rattle.forever_check.proofs.stored.rows_of.Goals as goal

pub loop-transition-preserved : goal.loop-transition-preserved
loop-transition-preserved c =
    let n = c.loop-transition.transition in
    let items : Vec Date Global → List Date = λ r. r.items in
    let row : List Date = c.in_ok-row.row.items in
    let g : ℕ → List Date = λ t. map (date_in_rows c.args.width c.args.dates.now t) (range_with_len 1 c.args.count) in
    ap (map items) c.in_ok-push.ensures.items
    ∙ (map-append items c.loop-transition.rows.items (c.in_ok-row.row ∷ [])
    ∙ (ap (λ (l : List (List Date)). l ++ row ∷ []) c.loop-transition.invariant
    ∙ (ap (λ (r : List Date). map g (range_with_len 0 n) ++ r ∷ []) c.in_ok-row.ensures ∙ sym (map-range_with_len_more g 0 n n (omega arith)))))
