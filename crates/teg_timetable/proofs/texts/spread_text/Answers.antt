use Rattle.std.proofs.Common.{rules, ℕ, ◌+◌, ◌≡◌, [], ◌++◌, List, map, length, refl, sym, ap, subst, ◌∙◌, string_bytes, arith}
use Rattle.std.specs.List.{range_with_len}
use Rattle.std.proofs.lemmas.List.FromFn.{length-map-range_with_len}
use Rattle.teg_settle.specs.settled_laws.SettledForms.{settled_length}
use Rattle.teg_text.specs.Lines.{line_then, written}
use Rattle.teg_text.specs.WordsOfNames.{settled_words}
use Rattle.teg_text.proofs.Joining.{lines_end}
use Rattle.teg_text.proofs.Listing.{all_below, more_after}
use Rattle.teg_timetable.specs.Spreads.{OutcomeTold, delay_by_spread}
use Rattle.teg_timetable.specs.TimetableTexts.{AreLeftDelaysShort, IsOutcomeToldOf, delays_line, delays_lines, delays_up_to, outcome_lines}
use Rattle.teg_timetable.proofs.Telling.{lines_from, three_parts, rows_small}
use Rattle.teg_timetable.proofs.texts.spread_text.Goals as goal

pub loop-index-preserved : goal.loop-index-preserved
loop-index-preserved c =
    let net = c.args.net.now in
    let s = c.args.delayed.now in
    let count = c.after-after.result + c.period-period.result in
    let k = c.loop-index.index in (
      more_after (λ i. line_then (delays_line net i (delays_up_to (delay_by_spread s i) count)) []) _ _ _ _ 0 k k (omega arith) c.in_ok-push_line.ensures.text refl c.loop-index.invariant.0,
      all_below (λ i. AreLeftDelaysShort s i count) k c.loop-index.invariant.1 c.in_ok-push_line.ensures.small,
    )

pub returns-clause-text : goal.returns-clause-text
returns-clause-text c =
    let net = c.args.net.now in
    let s = c.args.delayed.now in
    let n = length net.transitions in
    let count = settled_length s.form in
    let delays : ℕ → List ℕ = λ i. delays_up_to (delay_by_spread s i) count in
    let first = settled_words s.form.after s.form.period in
    let one = outcome_lines net s.outcome in
    let two = delays_lines net 0 (map delays (range_with_len 0 (length s.firsts))) in
    let head : string_bytes c.in_ok-text.text ≡ line_then first [] = rw (← c.after-after.ensures.value) (rw (← c.period-period.ensures.value) c.in_ok-text.ensures.ok) in
    let after = c.after-after.ensures.value in
    let period = c.period-period.ensures.value in
    let size : c.after-after.result + c.period-period.result ≡ count = omega arith in
    let all : c.loop-index.index ≡ n = omega (arith, c.loop-index-test.false, c.loop-index.auto.index-end, ap length c.transitions-index-end.ensures.value) in
    let became : string_bytes c.push_outcome.new.text ≡ string_bytes c.in_ok-text.text ++ written one =
    c.in_ok-push_outcome.ensures.text ∙ ap (λ (o : OutcomeTold). string_bytes c.in_ok-text.text ++ written (outcome_lines net o)) c.outcome.ensures in
    let rest : string_bytes c.loop-index.text ≡ string_bytes c.push_outcome.new.text ++ written (map (λ i. delays_line net i (delays i)) (range_with_len 0 n)) =
    lines_end (λ i. delays_line net i (delays i)) (range_with_len 0 n) (string_bytes c.push_outcome.new.text) (string_bytes c.loop-index.text) (rw (size, all) at c.loop-index.invariant.0) in
    let same : map (λ i. delays_line net i (delays i)) (range_with_len 0 n) ≡ two =
    sym (lines_from net delays 0 n) ∙ ap (λ (z : ℕ). delays_lines net 0 (map delays (range_with_len 0 z))) (sym c.requires.width) in
    rest
    ∙ ap (λ (l : List (List (List ℕ))). string_bytes c.push_outcome.new.text ++ written l) same
    ∙ ap (λ (l : List ℕ). l ++ written two) (became ∙ ap (λ (l : List ℕ). l ++ written one) head)
    ∙ three_parts first one two

pub returns-clause-told : goal.returns-clause-told
returns-clause-told c =
    let net = c.args.net.now in
    let s = c.args.delayed.now in
    let n = length net.transitions in
    let count = settled_length s.form in
    let after = c.after-after.ensures.value in
    let period = c.period-period.ensures.value in
    let size : c.after-after.result + c.period-period.result ≡ count = omega arith in
    let all : c.loop-index.index ≡ n = omega (arith, c.loop-index-test.false, c.loop-index.auto.index-end, ap length c.transitions-index-end.ensures.value) in
    let delays : ℕ → List ℕ = λ i. delays_up_to (delay_by_spread s i) count in
    record {
      after_in = search rules;
      period_in = search rules;
      outcome_in = subst (IsOutcomeToldOf net) c.outcome.ensures c.in_ok-push_outcome.ensures.told;
      each = length-map-range_with_len delays 0 (length s.firsts) ∙ c.requires.width;
      small = rows_small s (length s.firsts) count (λ i l. rw size at (c.loop-index.invariant.1 i (omega (arith, l, c.requires.width, all))));
    }
