use Rattle.std.proofs.Common.{ℕ, ◌+◌, ◌-◌, ◌*◌, ◌≡◌, List, [], ◌∷◌, ◌++◌, map, slice_index_or, ap, ◌∙◌, append_assoc, string_bytes, arith}
use Rattle.std.specs.Fmt.{decimal}
use Rattle.std.specs.List.{range_with_len}
use Rattle.dioid.specs.declared.dates.Date.TheVariants.{Early}
use Rattle.teg_text.specs.Lines.{further_then}
use Rattle.teg_text.specs.ValueWords.{date_word}
use Rattle.teg_text.proofs.Joining.{line_ends}
use Rattle.teg_text.proofs.Listing.{more_after}
use Rattle.dating_certificates.specs.CheckedRows.{date_in_rows}
use Rattle.answer_check.proofs.list.push_row.Goals as goal

pub loop-index-preserved : goal.loop-index-preserved
unfolding lib.Utf8.encode
loop-index-preserved c =
    let k = c.loop-index.index in
    let dates = c.args.dates.now in
    let width = c.args.width in
    let number = c.args.before in
    let word = date_word (slice_index_or dates (number * width + k) Early) in
    let before = string_bytes c.loop-index.text in
    let back : number ≡ number + 1 - 1 = omega arith in
    let pushed = c.in_ok-push_date.ensures.text ∙ (ap (λ (l : List ℕ). l ++ word) c.in_ok-push.ensures.bytes ∙ append_assoc before (32 ∷ []) word) in
    more_after (λ t. 32 ∷ date_word (date_in_rows width dates t (number + 1))) _ before _ _ 0 k k (omega arith) pushed
    (ap (λ j. 32 ∷ date_word (slice_index_or dates (j * width + k) Early)) back) c.loop-index.invariant

pub returns : goal.returns
unfolding lib.Utf8.encode
returns c =
    let width = c.args.width in
    let all : c.loop-index.index ≡ width = omega (arith, c.loop-index-test.false, c.loop-index.auto.index-end) in
    let words = rw all at c.loop-index.invariant in
    let f = λ (t : ℕ). date_word (date_in_rows width c.args.dates.now t (c.args.before + 1)) in
    line_ends f (range_with_len 0 width) (string_bytes c.write.new.self) (string_bytes c.loop-index.text) _ words c.in_ok-push-2.ensures.bytes
    ∙ (ap (λ (l : List ℕ). l ++ further_then (map f (range_with_len 0 width)) []) c.in_ok-write.ensures.bytes
    ∙ append_assoc (string_bytes c.args.text.now) (decimal (c.args.before + 1)) (further_then (map f (range_with_len 0 width)) []))
