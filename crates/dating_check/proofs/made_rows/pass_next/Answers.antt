use Rattle.std.proofs.Common.{ℕ, ◌≡◌, ◌+◌, ◌<◌, List, length, get_or, sym, ap, subst, ◌∙◌, arith}
use Rattle.std.proofs.lemmas.List.{length-set}
use Rattle.dioid.specs.declared.dates.Date.{Date}
use Rattle.dioid.specs.declared.dates.Date.TheVariants.{Early}
use Rattle.dioid.specs.Dates.{earlier_of}
use Rattle.dating_certificates.specs.CheckedRows.{date_up_to}
use Rattle.dating_check.specs.MadeRows.{AreFrom, IsMade, date_index}
use Rattle.dating_check.proofs.Lowering.{lowered, lowered_from, up_to_from}
use Rattle.dating_check.proofs.MadeRows.{next_passed}
use Rattle.dating_check.proofs.made_rows.pass_next.Goals as goal

pub loop-index-preserved : goal.loop-index-preserved
loop-index-preserved c =
    let net = c.args.net.now in
    let w : ℕ = length net.transitions in
    let n = c.args.numbers in
    let k = c.args.number in
    let i = c.loop-index.index in
    let dates = c.loop-index.dates in
    let kept = c.loop-index.invariant in
    let i_in : i < w = rw c.transitions-width.ensures.value at c.loop-index-test.true in
    let d : Date = date_up_to n w dates i (k + 1) in
    let new : c.lower.new.dates ≡ lowered w dates i k d = rw (c.cell_of.ensures, c.date_of-next.ensures, c.from.ensures, c.transitions-width.ensures.value) at c.lower.ensures in
    record {
      full = ap length new ∙ (length-set dates (date_index w i k) (earlier_of (get_or dates (date_index w i k) Early) d) ∙ kept.full);
      made = λ rows y latest h. subst (λ (ds : List Date). IsMade net rows n k (i + 1) y ds) (sym new)
          (next_passed net rows n k i y dates kept.full c.requires.number.first c.requires.number.last c.transitions-width.ensures.rules latest i_in (kept.made rows y latest h));
      from = λ fall h. subst (AreFrom fall) (sym new)
          (lowered_from w n dates fall i k d kept.full i_in c.requires.number.first c.requires.number.last (kept.from fall h) (up_to_from w n dates fall i (k + 1) kept.full i_in (omega arith) (kept.from fall h)));
    }

pub returns-clause-made : goal.returns-clause-made
returns-clause-made c = λ rows y latest h.
    let all : c.loop-index.index ≡ length c.transitions-width.result.now = omega (arith, c.loop-index-test.false, c.loop-index.auto.index-end) in
    subst (λ (i : ℕ). IsMade c.args.net.now rows c.args.numbers c.args.number i y c.loop-index.dates) (all ∙ ap length c.transitions-width.ensures.value) (c.loop-index.invariant.made rows y latest h)
