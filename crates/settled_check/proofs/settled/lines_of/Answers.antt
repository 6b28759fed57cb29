use Rattle.std.proofs.Common.{rules, ℕ, ◌≡◌, List, [], ◌++◌, length, map, refl, ap, sym, ◌∙◌, string_bytes, arith}
use Rattle.std.specs.List.{range_with_len}
use Rattle.teg_text.specs.Lines.{line_then, written}
use Rattle.teg_text.specs.WordsOfNames.{settled_words}
use Rattle.teg_text.proofs.Joining.{line_append, lines_end}
use Rattle.teg_text.proofs.Listing.{more_after}
use Rattle.settled_certificates.specs.SettledRows.{form_by_rows}
use Rattle.settled_check.specs.ShownForms.{form_line}
use Rattle.settled_check.proofs.settled.lines_of.Goals as goal

pub loop-index-preserved : goal.loop-index-preserved
loop-index-preserved c =
    let net = c.args.net.now in
    let form = c.args.form in
    let f = form_by_rows form.width form.dates.now form.after form.period form.steps.now in
    let k = c.loop-index.index in
    more_after (λ t. line_then (form_line net f t) []) _ _ _ _ 0 k k (omega arith) c.in_ok-push_form_line.ensures refl c.loop-index.invariant

pub returns : goal.returns
returns c =
    let net = c.args.net.now in
    let form = c.args.form in
    let count = length net.transitions in
    let f = form_by_rows form.width form.dates.now form.after form.period form.steps.now in
    let lines = map (form_line net f) (range_with_len 0 count) in
    let all : c.loop-index.index ≡ count = omega (arith, c.loop-index-test.false, c.loop-index.auto.index-end, ap length c.transitions-index-end.ensures.value) in
    let head : string_bytes c.push_settled.new.text ≡ line_then (settled_words form.after form.period) [] = search rules in
    lines_end (form_line net f) (range_with_len 0 count) (string_bytes c.push_settled.new.text) _ (rw all at c.loop-index.invariant)
    ∙ (ap (λ (l : List ℕ). l ++ written lines) head ∙ sym (line_append (settled_words form.after form.period) (written lines)))
