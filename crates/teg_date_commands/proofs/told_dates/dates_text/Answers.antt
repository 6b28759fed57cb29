use Rattle.std.proofs.Common.{rules, ◌≡◌, ◌<◌, ◌^◌, [], ◌++◌, List, All, ℕ, length, map, unsigned_abs, pos, refl, subst, ap, sym, ◌∙◌, string_bytes, arith}
use Rattle.std.proofs.lemmas.List.{get_or_default}
use Rattle.std.specs.List.{range_with_len}
use Rattle.settled_laws.specs.SettledForms.{row_of, step_of_form}
use Rattle.teg_report.specs.SettledTexts.{settled_line}
use Rattle.teg_text.specs.Lines.{line_then, written}
use Rattle.teg_text.specs.WordsOfNames.{settled_words}
use Rattle.teg_text.specs.ValueWords.{IsDate}
use Rattle.teg_text.proofs.Joining.{line_append, lines_end}
use Rattle.teg_text.proofs.Listing.{all_below, more_after}
use Rattle.teg_date_commands.proofs.told_dates.dates_text.Goals as goal

pub loop-index-preserved : goal.loop-index-preserved
loop-index-preserved c =
    let net = c.args.net.now in
    let f = c.args.settled.now in
    let k = c.loop-index.index in (
      more_after (λ t. line_then (settled_line net f t) []) _ _ _ _ 0 k k (omega arith) c.in_ok-push_line.ensures.text refl c.loop-index.invariant.0,
      all_below (λ t. All IsDate (row_of f t) × (unsigned_abs (step_of_form f t) < 2 ^ 128)) k c.loop-index.invariant.1 (c.in_ok-push_line.ensures.dates, c.in_ok-push_line.ensures.step),
    )

pub returns-clause-text : goal.returns-clause-text
returns-clause-text c =
    let net = c.args.net.now in
    let f = c.args.settled.now in
    let count = length net.transitions in
    let lines = map (settled_line net f) (range_with_len 0 count) in
    let all : c.loop-index.index ≡ count = omega (arith, c.loop-index-test.false, c.loop-index.auto.index-end, ap length c.transitions-index-end.ensures.value) in
    let bytes : c.into_bytes.result.items ≡ string_bytes c.loop-index.text = search rules in
    let head : string_bytes c.in_ok-text.text ≡ line_then (settled_words f.after f.period) [] = rw (← c.after-after.ensures.value) (rw (← c.period-period.ensures.value) c.in_ok-text.ensures.ok) in
    bytes ∙ (lines_end (settled_line net f) (range_with_len 0 count) (string_bytes c.in_ok-text.text) _ (rw all at c.loop-index.invariant.0)
    ∙ (ap (λ (l : List ℕ). l ++ written lines) head ∙ sym (line_append (settled_words f.after f.period) (written lines))))

pub returns-clause-kept : goal.returns-clause-kept
returns-clause-kept c =
    let f = c.args.settled.now in
    let sizes = c.after-after.ensures.kept.sizes in
    let within : (t : ℕ) → t < length f.rows → t < c.loop-index.index = λ t l. omega (arith, l, c.loop-index-test.false, c.requires, ap length c.transitions-index-end.ensures.value) in
    record {
      after = search rules;
      period = search rules;
      full = sizes.steps_are;
      dates = λ t d l. subst (All IsDate) (get_or_default f.rows t [] d l) (c.loop-index.invariant.1 t (within t l)).0;
      steps = λ t d l. subst (λ z. unsigned_abs z < 2 ^ 128) (get_or_default f.steps t (pos 0) d l) (c.loop-index.invariant.1 t (within t (omega (arith, l, sizes.steps_are)))).1;
    }
