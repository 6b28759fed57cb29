use Rattle.std.proofs.Common.{subst, ◌≡◌, [], ◌∷◌, ◌++◌, List, ℕ, map, ap, ◌∙◌, append_assoc, string_bytes, arith}
use Rattle.std.specs.Fmt.{decimal}
use Rattle.std.specs.List.{range_with_len}
use Rattle.dioid.specs.declared.dates.Date.{Date}
use Rattle.date_rows.specs.DateTables.{date_at}
use Rattle.teg_report.specs.DateLists.{dated_firing}
use Rattle.teg_text.specs.Lines.{further_then}
use Rattle.teg_text.specs.ValueWords.{IsDate, date_word}
use Rattle.teg_text.proofs.Joining.{line_ends}
use Rattle.teg_text.proofs.Listing.{all_below, more_after}
use Rattle.teg_report.proofs.lists.push_line.Goals as goal

pub loop-index-preserved : goal.loop-index-preserved
unfolding lib.Utf8.encode
loop-index-preserved c =
    let before = string_bytes c.loop-index.text in
    let pushed = c.in_ok-push_date.ensures.text ∙ (ap (λ (l : List ℕ). l ++ date_word c.date.result) c.in_ok-push.ensures.bytes ∙ append_assoc before (32 ∷ []) (date_word c.date.result)) in (
      more_after (λ t. 32 ∷ dated_firing (date_at c.args.table.now) c.args.number t) _ before _ _ 0 c.loop-index.index c.loop-index.index (omega arith)
          pushed (ap (λ (d : Date). 32 ∷ date_word d) c.date.ensures) c.loop-index.invariant.0,
      all_below (λ (t : ℕ). IsDate (date_at c.args.table.now t c.args.number)) c.loop-index.index c.loop-index.invariant.1 (subst IsDate c.date.ensures c.in_ok-push_date.ensures.kept),
    )

pub returns-clause-text : goal.returns-clause-text
unfolding lib.Utf8.encode
returns-clause-text c =
    let all : c.loop-index.index ≡ c.args.width = omega (arith, c.loop-index-test.false, c.loop-index.auto.index-end) in
    let words = rw all at c.loop-index.invariant.0 in
    let f = dated_firing (date_at c.args.table.now) c.args.number in
    line_ends f (range_with_len 0 c.args.width) (string_bytes c.write.new.self) (string_bytes c.loop-index.text) _ words c.in_ok-push-2.ensures.bytes
    ∙ (ap (λ (l : List ℕ). l ++ further_then (map f (range_with_len 0 c.args.width)) []) c.in_ok-write.ensures.bytes
    ∙ append_assoc (string_bytes c.args.text.now) (decimal c.args.number) (further_then (map f (range_with_len 0 c.args.width)) []))

pub returns-clause-kept : goal.returns-clause-kept
returns-clause-kept c t lt = c.loop-index.invariant.1 t (omega (arith, lt, c.loop-index-test.false))
