use Rattle.std.proofs.Common.{rules, ◌≡◌, ◌∷◌, ◌++◌, codes, slice_index_or, refl, string_bytes}
use Rattle.std.specs.Fmt.{decimal}
use Rattle.teg_text.proofs.Listing.{more_items}
use Rattle.forever_check.proofs.texts.push_numbers.Goals as goal

pub loop-date-preserved : goal.loop-date-preserved
loop-date-preserved c =
    let i = c.loop-date.date-index in
    let before = string_bytes c.loop-date.text in
    let pushed : string_bytes c.write.new.self ≡ before ++ (codes " " ++ decimal (slice_index_or c.args.dates.now i 0)) = search rules in
    more_items (λ date. 32 ∷ decimal date) (string_bytes c.args.text.now) before _ c.args.dates.now c.args.dates.now i 0 refl c.loop-date-test.true pushed c.loop-date.invariant
