use Rattle.std.proofs.Common.{◌+◌, ◌≡◌, ◌≤◌, ◌++◌, ◌∷◌, [], List, length, map, sym, ap, ◌∙◌, arith}
use Rattle.std.specs.List.{range_with_len}
use Rattle.std.proofs.lemmas.List.FromFn.{map-range_with_len_more}
use Rattle.settled_laws.specs.dioid.declared.dates.Date.{Date}
use Rattle.settled_laws.specs.SettledForms.{row_date, row_of, settled_length}
use Rattle.teg_date_commands.proofs.TellingRows.{row_told, told_by_row}
use Rattle.teg_date_commands.proofs.told_dates.dates_of.Goals as goal

pub loop-number-preserved : goal.loop-number-preserved
loop-number-preserved c =
    let f = c.args.settled.now in
    let t = c.args.transition.index in
    let k = c.loop-number.number in
    let within : k + 1 ≤ settled_length f = omega (arith, c.loop-number-test.true, c.loop-number.auto.number-end, c.after-after.ensures.value, c.period-period.ensures.value) in
    let is : c.date.result ≡ row_date f t (k + 1) = c.date.ensures.value ∙ told_by_row f t (k + 1) within in
    c.in_ok-push.ensures.items
    ∙ (ap (λ (l : List Date). l ++ c.date.result ∷ []) c.loop-number.invariant
    ∙ (ap (λ (d : Date). map (λ j. row_date f t (j + 1)) (range_with_len 0 k) ++ d ∷ []) is ∙ sym (map-range_with_len_more (λ j. row_date f t (j + 1)) 0 k k (omega arith))))

pub returns : goal.returns
returns c =
    let f = c.args.settled.now in
    let t = c.args.transition.index in
    let sizes = c.after-after.ensures.kept.sizes in
    let long : length (row_of f t) ≡ settled_length f = sizes.full t [] c.requires in
    let all : c.loop-number.number ≡ settled_length f = omega (arith, c.loop-number-test.false, c.loop-number.auto.number-end, c.after-after.ensures.value, c.period-period.ensures.value) in
    rw all at c.loop-number.invariant ∙ row_told f t long
