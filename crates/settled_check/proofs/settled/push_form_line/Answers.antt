use Rattle.std.proofs.Common.{rules, ℕ, ◌≡◌, ◌++◌, ◌∷◌, [], List, pos, codes, map, slice_index_or, ap, sym, ◌∙◌, append_assoc, string_bytes}
use Rattle.std.specs.Fmt.{signed_decimal}
use Rattle.std.specs.List.{range_with_len}
use Rattle.settled_laws.specs.SettledForms.{row_of}
use Rattle.teg_text.specs.Lines.{further_then, line_then}
use Rattle.teg_text.specs.ValueWords.{date_word}
use Rattle.teg_text.specs.WordsOfNames.{name_of_transition}
use Rattle.teg_text.proofs.Joining.{line_goes_on}
use Rattle.dating_certificates.specs.CheckedRows.{date_in_rows}
use Rattle.settled_certificates.specs.SettledRows.{form_by_rows}
use Rattle.settled_check.proofs.FormLines.{words_of_row}
use Rattle.settled_check.proofs.settled.push_form_line.Goals as goal

pub returns : goal.returns
returns c =
    let net = c.args.net.now in
    let form = c.args.form in
    let t = c.args.index in
    let numbers = range_with_len 1 form.count in
    let word = λ (k : ℕ). date_word (date_in_rows form.width form.dates.now t k) in
    let name = name_of_transition net (record { index = t }) in
    let last = codes "step" ∷ signed_decimal (slice_index_or form.steps.now t (pos 0)) ∷ [] in
    let before = string_bytes c.args.text.now in
    let body = further_then (map word numbers ++ last) [] in
    let row : map date_word (row_of (form_by_rows form.width form.dates.now form.after form.period form.steps.now) t) ≡ map word numbers =
    rw c.requires.count (words_of_row form.width form.dates.now form.after form.period form.steps.now t (rw c.requires.width c.requires.index)) in
    let ended : string_bytes c.end_form_line.new.text ≡ string_bytes c.push_told.new.text ++ further_then last [] = search rules in
    line_goes_on word numbers last (string_bytes c.begin_form_line.new.text) (string_bytes c.push_told.new.text) _ c.in_ok-push_told.ensures ended
    ∙ (ap (λ (l : List ℕ). l ++ body) c.in_ok-begin_form_line.ensures
    ∙ (append_assoc before (codes "transition " ++ name) body
    ∙ ap (λ (ws : List (List ℕ)). before ++ line_then (codes "transition" ∷ name ∷ (ws ++ last)) []) (sym row)))
