use Rattle.std.proofs.Common.{arith, subst}
use Rattle.std.specs.Prelude.{Option, IfSome}
use Rattle.teg_forever.specs.declared.late.LateFiring.{LateFiring}
use Rattle.teg_forever.specs.TogetherRows.{IsLateFiringAt}
use Rattle.teg_forever.proofs.Residues.{none_of}
use Rattle.teg_forever.proofs.SearchedRows.{in_time_more}
use Rattle.teg_forever.proofs.together.late_among.Goals as goal

pub loop-place-init : goal.loop-place-init
loop-place-init c = λ i r l at. absurd (omega arith)

pub returns-in-Some-clause-some : goal.returns-in-Some-clause-some
returns-in-Some-clause-some c =
    let a = c.args.due.now in
    let row = c.row.result.now in
    record {
      within = c.loop-place-test.true;
      before = c.loop-place.invariant;
      row = row;
      is_row = c.row.ensures.stands;
      late = subst (λ (o : Option LateFiring). IfSome o (IsLateFiringAt a.net row c.args.number)) c.in-Some.is (rw c.net.ensures.value at c.late_at.ensures.some);
    }

pub loop-place-preserved : goal.loop-place-preserved
loop-place-preserved c =
    let a = c.args.due.now in
    in_time_more a.net a.rows c.args.number c.loop-place.place c.row.result.now c.row.ensures.stands
    (none_of _ _ c.in_default.not-Some (rw c.net.ensures.value at c.late_at.ensures.none)) c.loop-place.invariant

pub returns-clause-none : goal.returns-clause-none
returns-clause-none c = λ i r l at. c.loop-place.invariant i r (omega arith) at
