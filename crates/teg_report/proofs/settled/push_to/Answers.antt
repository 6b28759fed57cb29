use Rattle.std.proofs.Common.{rules, ◌≡◌, [], ◌++◌, List, ℕ, codes, ap, ◌∙◌, append_assoc, string_bytes}
use Rattle.dioid.specs.declared.dates.Date.{Date}
use Rattle.teg_report.specs.SettledTexts.{row_words}
use Rattle.teg_text.specs.Lines.{further_then}
use Rattle.teg_text.specs.WordsOfNames.{name_of_transition}
use Rattle.teg_report.proofs.settled.push_to.Goals as goal

pub returns-clause-text : goal.returns-clause-text
returns-clause-text c =
    let name = name_of_transition c.args.net.now c.args.line.now.to in
    let end = further_then (row_words c.args.line.now.dates.items c.args.line.now.step) [] in
    let pushed : string_bytes c.end_row.new.text ≡ string_bytes c.begin_row.new.text ++ further_then (row_words c.deref.result.now c.args.line.now.step) [] = search rules in
    pushed
    ∙ (ap (λ (ds : List Date). string_bytes c.begin_row.new.text ++ further_then (row_words ds c.args.line.now.step) []) c.deref.ensures.value
    ∙ (ap (λ (l : List ℕ). l ++ end) c.in_ok-begin_row.ensures
    ∙ append_assoc (string_bytes c.args.text.now) (codes "to " ++ name) end))
