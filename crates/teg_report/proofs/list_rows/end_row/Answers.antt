use Rattle.std.proofs.Common.{◌-◌, ◌<◌, ◌∷◌, ◌++◌, length, drop, map, get_or, sym, ap, ◌∙◌, arith}
use Rattle.std.proofs.lemmas.List.{drop_all, length-map}
use Rattle.dioid.specs.declared.dates.Date.TheVariants.{Early}
use Rattle.teg_text.specs.ValueWords.{date_word}
use Rattle.teg_report.proofs.Endings.{none_behind, one_before, date_of_cell}
use Rattle.teg_report.proofs.list_rows.end_row.Goals as goal

pub loop-index-init : goal.loop-index-init
loop-index-init g c =
    let first = c.byte_before-start.ensures in
    let dates = map g.C.DateCell.held c.args.row.now in
    record {
      text = first.text ∙ (ap (λ bytes. 10 ∷ bytes) (drop_all (length c.args.line.now) c.args.line.now (omega arith)) ∙ sym (none_behind date_word dates));
      room = omega (arith, first.start, first.same);
      within = omega (arith, first.start, first.same);
      same = first.same;
    }

pub loop-index-preserved : goal.loop-index-preserved
loop-index-preserved g c =
    let held = g.C.DateCell.held in
    let dates = map held c.args.row.now in
    let i = c.loop-index.index in
    let before = c.loop-index.invariant in
    let date = c.date_before-start.ensures in
    let blank = c.byte_before-start-in-loop-index.ensures in
    let in' : i < length dates = rw (length-map c.args.row.now held) c.loop-index-test.true in
    let cell = date_of_cell held c.args.row.now i c.index-row-row.result c.loop-index-test.true c.index-row-row.is in
    record {
      text =
          blank.text
          ∙ (ap (λ bytes. 32 ∷ bytes) (date.text ∙ (ap (λ d. date_word d ++ drop c.loop-index.start c.loop-index.line) (c.date-date.ensures ∙ sym cell)
          ∙ ap (λ bytes. date_word (get_or dates (length dates - 1 - i) Early) ++ bytes) before.text))
          ∙ sym (one_before date_word dates i Early in'));
      room = omega (arith, before.room, date.start.1, blank.start, blank.same, date.same);
      within = omega (arith, before.within, date.start.0, blank.start, blank.same, date.same);
      same = blank.same ∙ (date.same ∙ before.same);
    }
