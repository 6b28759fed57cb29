use Rattle.std.proofs.Common.{rules, ◌≡◌, ◌+◌, Bor, true, List, ℕ, [], map, slice_index_or, refl, ap, subst, ◌∙◌, arith}
use Rattle.teg_text.specs.Lines.{phrase}
use Rattle.answer_check.specs.ListReading.{AreReadRows, ReadsRow, row_words}
use Rattle.answer_check.proofs.RowDates.{row_read}
use Rattle.answer_check.proofs.list_reading.rows_in.Goals as goal

pub loop-before-preserved : goal.loop-before-preserved
loop-before-preserved c =
    let lines : List (List ℕ) = map (λ x. x.now) c.args.lines.now in
    let n = c.loop-before.before in
    let before = c.loop-before.dates.items in
    let after = c.row_in.new.dates.items in
    let same : n + 2 ≡ n + 1 + 1 = omega arith in
    let is : map (λ (x : Bor (List ℕ)). x.now) c.deref.result.now ≡ row_words lines (n + 1) =
    ap (λ (l : List (Bor (List ℕ))). map (λ (x : Bor (List ℕ)). x.now) l) c.deref.ensures.value
    ∙ (c.in_ok-words.ensures ∙ ap phrase (c.text_at-line.ensures ∙ ap (λ (i : ℕ). slice_index_or lines i []) same)) in
    let yes : c.in_ok-row_in.field-0 ≡ true = search rules in
    let read : ReadsRow c.args.width (n + 1) (row_words lines (n + 1)) before after true =
    subst (ReadsRow c.args.width (n + 1) (row_words lines (n + 1)) before after) yes
    (subst (λ (ws : List (List ℕ)). ReadsRow c.args.width (n + 1) ws before after c.in_ok-row_in.field-0) is c.in_ok-row_in.ensures) in
    row_read c.args.width n (n + 1) lines before after read.1.0 c.loop-before.invariant read.0 read.1.2 read.1.1 refl

pub returns : goal.returns
returns c =
    let lines : List (List ℕ) = map (λ x. x.now) c.args.lines.now in
    let all : c.loop-before.before ≡ c.args.count = omega (arith, c.loop-before-test.false, c.loop-before.auto.before-end) in
    subst (λ (n : ℕ). AreReadRows c.args.width n lines c.loop-before.dates.items) all c.loop-before.invariant
