use Rattle.std.proofs.Common.{rules, ◌≡◌, List, ℕ, [], ◌∷◌, ◌++◌, sym, ap, ◌∙◌, string_bytes}
use Rattle.teg_text.specs.Lines.{line_then, phrase}
use Rattle.word_lines.proofs.Parts.{line_phrase}
use Rattle.answer_check.specs.ShownLists.{all_names_line, count_line}
use Rattle.answer_check.proofs.list_reading.is_headed.Goals as goal

pub returns : goal.returns
returns c =
    let first = c.args.first.now in
    let second = c.args.second.now in
    let two : line_then (phrase first) (line_then (phrase second) []) ≡ string_bytes c.in_ok-told.told =
    line_phrase first (line_then (phrase second) []) ∙ (ap (λ (l : List ℕ). first ++ 10 ∷ l) (line_phrase second []) ∙ sym c.in_ok-told.ensures.ok) in
    let head : string_bytes c.in_ok-head.head ≡ line_then (count_line c.args.count) (line_then (all_names_line c.args.net.now) []) = c.in_ok-head.ensures in (
      λ yes. (let same : string_bytes c.in_ok-told.told ≡ string_bytes c.in_ok-head.head = search rules in two ∙ (same ∙ head)),
      λ h. (let same : string_bytes c.in_ok-told.told ≡ string_bytes c.in_ok-head.head = sym two ∙ (h ∙ sym head) in search rules),
    )
