use Rattle.std.proofs.Common.{rules, ◌≡◌, [], ◌∷◌, ◌++◌, codes, string_bytes}
use Rattle.std.specs.Fmt.{signed_decimal}
use Rattle.teg_text.specs.ValueWords.{date_word}
use Rattle.teg_text.proofs.Joining.{line_goes_on}
use Rattle.teg_date_commands.proofs.told_dates.end_row.Goals as goal

pub returns-clause-text : goal.returns-clause-text
returns-clause-text c =
    let end : string_bytes c.write.new.self ≡ string_bytes c.push_dates.new.text ++ (codes " step " ++ (signed_decimal c.args.step ++ codes "\n")) = search rules in
    line_goes_on date_word c.args.dates.now (codes "step" ∷ signed_decimal c.args.step ∷ []) (string_bytes c.args.text.now) (string_bytes c.push_dates.new.text) _ c.in_ok-push_dates.ensures.text end
