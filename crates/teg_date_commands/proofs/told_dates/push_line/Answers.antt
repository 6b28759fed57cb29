use Rattle.std.proofs.Common.{rules, ◌≡◌, [], ◌++◌, List, ℕ, ℤ, codes, ap, ap₂, ◌∙◌, append_assoc, string_bytes}
use Rattle.settled_laws.specs.dioid.declared.dates.Date.{Date}
use Rattle.settled_laws.specs.SettledForms.{row_of, step_of_form}
use Rattle.teg_report.specs.SettledTexts.{row_words}
use Rattle.teg_text.specs.Lines.{further_then}
use Rattle.teg_text.specs.WordsOfNames.{name_of_transition}
use Rattle.teg_date_commands.proofs.told_dates.push_line.Goals as goal

pub returns-clause-text : goal.returns-clause-text
returns-clause-text c =
    let f = c.args.settled.now in
    let i = c.args.index in
    let name = name_of_transition c.args.net.now (record { index = i }) in
    let end = further_then (row_words (row_of f i) (step_of_form f i)) [] in
    let pushed : string_bytes c.end_row.new.text ≡ string_bytes c.begin_row.new.text ++ further_then (row_words c.as_slice.result.now c.step-step.result) [] = search rules in
    pushed
    ∙ (ap₂ (λ (ds : List Date) (s : ℤ). string_bytes c.begin_row.new.text ++ further_then (row_words ds s) []) (c.as_slice.ensures.value ∙ c.in_ok-dates.ensures) c.step-step.ensures.value
    ∙ (ap (λ (l : List ℕ). l ++ end) c.in_ok-begin_row.ensures
    ∙ append_assoc (string_bytes c.args.text.now) (codes "transition " ++ name) end))
