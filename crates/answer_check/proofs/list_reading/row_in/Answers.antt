use Rattle.std.proofs.Common.{rules, ◌≡◌, ◌+◌, [], Some, Bor, List, ℕ, length, map, slice_index_or, refl, sym, ◌∙◌, arith}
use Rattle.std.specs.Fmt.{decimal}
use Rattle.std.proofs.lemmas.Bool.{eqb-false}
use Rattle.std.proofs.lemmas.List.{length-map}
use Rattle.answer_check.specs.ListReading.{IsReadDate}
use Rattle.answer_check.proofs.RowDates.{all_read, none_read_yet, one_more_read}
use Rattle.answer_check.proofs.list_reading.row_in.Goals as goal

pub loop-index-init : goal.loop-index-init
loop-index-init c = none_read_yet _ _

pub loop-index-preserved : goal.loop-index-preserved
loop-index-preserved c =
    let words : List (List ℕ) = map (λ x. x.now) c.args.words.now in
    let k = c.loop-index.index in
    let one : IsReadDate (slice_index_or words (k + 1) []) c.in_ok-date.date = rw c.text_at-word.ensures at c.in_ok-date.ensures in
    one_more_read words c.args.dates.now.items c.loop-index.dates.items c.push.new.self.items k (k + 1) c.in_ok-date.date c.loop-index.invariant one c.in_ok-push.ensures.items refl

pub returns : goal.returns
returns c =
    let words : List (List ℕ) = map (λ x. x.now) c.args.words.now in
    let long = length-map c.args.words.now (λ (x : Bor (List ℕ)). x.now) in
    let some : length c.args.words.now ≡ 0 → ⊥ = eqb-false (length c.args.words.now) 0 (sym c.is_empty.ensures ∙ c.if-is_empty.false) in
    let number : c.in_ok-number_of.field-0 ≡ Some c.args.number = search rules in
    let first : slice_index_or words 0 [] ≡ decimal c.args.number = sym c.text_at-first.ensures ∙ (c.in_ok-number_of.ensures c.args.number (omega arith)).0 number in
    let all : c.loop-index.index ≡ c.args.width = omega (arith, c.loop-index-test.false, c.loop-index.auto.index-end) in (
      record { long = omega (arith, long, some); first = first },
      all_read words c.args.dates.now.items c.loop-index.dates.items c.loop-index.index c.args.width all c.loop-index.invariant,
    )
