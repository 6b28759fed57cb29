use Rattle.std.proofs.Common.{ℕ, ◌+◌, ◌-◌, ◌*◌, ◌≡◌, List, [], ◌∷◌, ◌++◌, slice_index_or, ap, ◌∙◌, append_assoc, string_bytes, arith}
use Rattle.dioid.specs.declared.dates.Date.TheVariants.{Early}
use Rattle.teg_text.specs.ValueWords.{date_word}
use Rattle.teg_text.proofs.Listing.{more_after}
use Rattle.dating_certificates.specs.CheckedRows.{date_in_rows}
use Rattle.settled_check.proofs.settled.push_told.Goals as goal

pub loop-before-preserved : goal.loop-before-preserved
unfolding lib.Utf8.encode
loop-before-preserved c =
    let k = c.loop-before.before in
    let dates = c.args.dates.now in
    let width = c.args.width in
    let index = c.args.index in
    let word = date_word (slice_index_or dates (k * width + index) Early) in
    let before = string_bytes c.loop-before.text in
    let back : k ≡ k + 1 - 1 = omega arith in
    let pushed = c.in_ok-push_date.ensures.text ∙ (ap (λ (l : List ℕ). l ++ word) c.in_ok-push.ensures.bytes ∙ append_assoc before (32 ∷ []) word) in
    more_after (λ j. 32 ∷ date_word (date_in_rows width dates index j)) _ before _ _ 1 k (k + 1) (omega arith) pushed
    (ap (λ j. 32 ∷ date_word (slice_index_or dates (j * width + index) Early)) back) c.loop-before.invariant
