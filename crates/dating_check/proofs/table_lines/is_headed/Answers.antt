use Rattle.std.proofs.Common.{rules, ◌≡◌, [], sym, ◌∙◌, string_bytes}
use Rattle.teg_text.specs.Lines.{line_then, phrase}
use Rattle.word_lines.proofs.Parts.{line_phrase}
use Rattle.dating_check.specs.TableTexts.{table_head}
use Rattle.dating_check.proofs.table_lines.is_headed.Goals as goal

pub returns : goal.returns
returns c =
    let first = c.args.first.now in
    let one : line_then (phrase first) [] ≡ string_bytes c.in_ok-told.told = line_phrase first [] ∙ sym c.in_ok-told.ensures.ok in
    let head : string_bytes c.in_ok-head.head ≡ line_then (table_head c.args.numbers) [] = c.in_ok-head.ensures.ok in (
      λ yes. (let same : string_bytes c.in_ok-told.told ≡ string_bytes c.in_ok-head.head = search rules in one ∙ (same ∙ head)),
      λ h. (let same : string_bytes c.in_ok-told.told ≡ string_bytes c.in_ok-head.head = sym one ∙ (h ∙ sym head) in search rules),
    )
