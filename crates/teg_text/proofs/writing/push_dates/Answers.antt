use Rattle.std.proofs.Common.{ℕ, List, [], ◌∷◌, ◌++◌, slice_index_or, refl, ap, ◌∙◌, append_assoc, string_bytes}
use Rattle.dioid.specs.declared.dates.Date.TheVariants.{Early}
use Rattle.teg_text.specs.ValueWords.{IsDate, date_word}
use Rattle.teg_text.proofs.Listing.{all_items, more_items}
use Rattle.teg_text.proofs.writing.push_dates.Goals as goal

pub loop-date-preserved : goal.loop-date-preserved
unfolding lib.Utf8.encode
loop-date-preserved c =
    let i = c.loop-date.date-index in
    let word = date_word (slice_index_or c.args.dates.now i Early) in
    let before = string_bytes c.loop-date.text in
    let pushed = c.in_ok-push_date.ensures.text ∙ (ap (λ (l : List ℕ). l ++ word) c.in_ok-push.ensures.bytes ∙ append_assoc before (32 ∷ []) word) in (
      more_items (λ date. 32 ∷ date_word date) (string_bytes c.args.text.now) before _ c.args.dates.now c.args.dates.now i Early refl c.loop-date-test.true pushed c.loop-date.invariant.0,
      all_items IsDate c.args.dates.now c.args.dates.now i Early refl c.loop-date-test.true c.in_ok-push_date.ensures.kept c.loop-date.invariant.1,
    )
