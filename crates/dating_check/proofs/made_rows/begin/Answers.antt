use Rattle.std.proofs.Common.{rules, ℕ, pos, ◌≡◌, ◌+◌, ◌*◌, List, length, get_or, replicate, sym, ap, subst, ◌∙◌, arith}
use Rattle.std.proofs.lemmas.List.{get_or_default, length-set}
use Rattle.dioid.specs.declared.dates.Date.{Date}
use Rattle.dioid.specs.declared.dates.Date.TheVariants.{At, Early, Never}
use Rattle.dioid.specs.Dates.{earlier_of}
use Rattle.teg_net.proofs.Reading.{written_back}
use Rattle.teg_due.specs.declared.rows.DueRow.{DueRow}
use Rattle.teg_due.proofs.DueOnce.{no_row}
use Rattle.dating_check.specs.MadeRows.{date_index}
use Rattle.dating_check.proofs.BegunRows.{IsBegun, begun_first, begun_made, begun_more}
use Rattle.dating_check.proofs.Lowering.{lowered}
use Rattle.dating_check.proofs.made_rows.begin.Goals as goal

pub loop-row-init : goal.loop-row-init
loop-row-init c =
    let net = c.args.net.now in
    let size : ℕ = c.args.numbers * length c.transitions-width.result.now in
    let filled : c.in_ok-dates.dates.items ≡ replicate size Never = c.in_ok-dates.ensures.items_if_clones_equal (search rules) in
    begun_first net c.args.rows.now c.args.numbers size c.in_ok-dates.dates.items filled (ap (λ z. c.args.numbers * length z) c.transitions-width.ensures.value)

pub loop-row-preserved : goal.loop-row-preserved
loop-row-preserved c =
    let net = c.args.net.now in
    let rows = c.args.rows.now in
    let n = c.args.numbers in
    let i = c.loop-row.row-index in
    let l = c.loop-row-test.true in
    let r : DueRow = get_or rows i no_row in
    let items = c.loop-row.dates.items in
    let w : ℕ = length net.transitions in
    let new : c.lower.new.dates ≡ lowered w items r.transition.index r.number (At (pos r.date)) =
    rw (c.deref_mut.ensures.value, c.cell_of-cell.ensures, c.index.ensures, c.due_date.ensures, c.transitions-width.ensures.value) at c.lower.ensures in
    let more : IsBegun net rows n (lowered w items r.transition.index r.number (At (pos r.date))) (i + 1) =
    begun_more net rows n items i r c.transitions-width.ensures.rules c.requires.each c.requires.most l (λ d. get_or_default rows i d no_row l) c.loop-row.invariant in
    let vec = c.loop-row.dates.ok in
    let own = length-set items (date_index w r.transition.index r.number) (earlier_of (get_or items (date_index w r.transition.index r.number) Early) (At (pos r.date))) in
    let long : length c.lower.new.dates ≡ length items = ap length new ∙ own in
    let whole = written_back c.lower.new.dates items c.loop-row.dates.len (omega (arith, long, vec.0)) in
    subst (λ (ds : List Date). IsBegun net rows n ds (i + 1)) (sym (whole ∙ new)) more

pub returns-clause-made : goal.returns-clause-made
returns-clause-made c = λ y latest.
    begun_made c.args.net.now c.args.rows.now c.args.numbers c.loop-row.dates.items c.loop-row.row-index y c.requires.most (omega (arith, c.loop-row-test.false)) latest c.loop-row.invariant
