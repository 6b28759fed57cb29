use Rattle.std.proofs.Common.{[], rules, ◌≡◌, ◌+◌, ◌∷◌, ◌++◌, List, ℕ, map, codes, ap, ◌∙◌, append_assoc, string_bytes, arith}
use Rattle.std.specs.Fmt.{decimal}
use Rattle.std.specs.List.{range_with_len}
use Rattle.teg_text.specs.Lines.{further_then}
use Rattle.teg_text.specs.WordsOfNames.{name_of_transition}
use Rattle.teg_text.proofs.Joining.{line_ends}
use Rattle.teg_text.proofs.Listing.{more_after}
use Rattle.delay_check.specs.DelayRows.{delay_by_rows}
use Rattle.delay_check.proofs.spread_text.push_line.Goals as goal

pub loop-before-preserved : goal.loop-before-preserved
loop-before-preserved c =
    let r = c.args.rows.now in
    let p = c.args.planned.now in
    let delay = delay_by_rows r.width r.dates.now r.after r.turn r.steps.now p.period p.table.now c.args.index in
    let k = c.loop-before.before in
    let pushed : string_bytes c.write.new.self ≡ string_bytes c.loop-before.text ++ (codes " " ++ decimal c.delay_at-delay.result) = search rules in
    more_after (λ n. 32 ∷ decimal (delay n)) _ _ _ _ 1 k (k + 1) (omega arith) pushed (ap (λ (n : ℕ). 32 ∷ decimal n) c.delay_at-delay.ensures) c.loop-before.invariant

pub returns : goal.returns
unfolding lib.Utf8.encode
returns c =
    let r = c.args.rows.now in
    let p = c.args.planned.now in
    let f : ℕ → List ℕ = λ k. decimal (delay_by_rows r.width r.dates.now r.after r.turn r.steps.now p.period p.table.now c.args.index k) in
    let xs = range_with_len 1 r.count in
    let name = name_of_transition p.net.now (record { index = c.args.index }) in
    let before = string_bytes c.args.text.now in
    let all : c.loop-before.before ≡ r.count = omega (arith, c.loop-before-test.false, c.loop-before.auto.before-end) in
    line_ends f xs (string_bytes c.begin_line.new.text) (string_bytes c.loop-before.text) _ (rw all at c.loop-before.invariant) c.in_ok-push.ensures.bytes
    ∙ ap (λ (l : List ℕ). l ++ further_then (map f xs) []) c.in_ok-begin_line.ensures
    ∙ append_assoc before (codes "delays " ++ name) (further_then (map f xs) [])
