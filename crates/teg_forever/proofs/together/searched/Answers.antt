use Rattle.std.proofs.Common.{arith, subst}
use Rattle.std.specs.Prelude.{Option, IfSome, IfNone}
use Rattle.teg_forever.specs.declared.together.LateRow.{LateRow}
use Rattle.teg_forever.specs.TogetherRows.{AreInTimeAt, IsLateAmong}
use Rattle.teg_forever.proofs.SearchedRows.{search_found, search_kept}
use Rattle.teg_forever.proofs.together.searched.Goals as goal

pub late_among-requires-clause-count : goal.late_among-requires-clause-count
late_among-requires-clause-count c = let left_in = c.requires.before.within in let count = c.requires.lasts.count in omega (arith, left_in, count)

pub greatest_of-requires-clause-count : goal.greatest_of-requires-clause-count
greatest_of-requires-clause-count c =
    let a = c.args.due.now in
    let late = subst (λ (o : Option LateRow). IfSome o (IsLateAmong a.net a.rows c.args.before.left c.args.number)) c.in-Some.is c.late_among.ensures.some in
    let low = late.within in
    let left_in = c.requires.before.within in
    omega (arith, low, left_in)

pub greatest_of-requires-clause-few : goal.greatest_of-requires-clause-few
greatest_of-requires-clause-few c = c.requires.lasts.few

pub returns-in-Some : goal.returns-in-Some
returns-in-Some c =
    let a = c.args.due.now in
    let late = subst (λ (o : Option LateRow). IfSome o (IsLateAmong a.net a.rows c.args.before.left c.args.number)) c.in-Some.is c.late_among.ensures.some in
    search_found a.net a.rows c.args.lasts.now c.args.number c.greatest_of.result c.args.before _ late c.greatest_of.ensures.most c.requires.before

pub returns-in-None : goal.returns-in-None
returns-in-None c =
    let a = c.args.due.now in
    let none = subst (λ (o : Option LateRow). IfNone o (AreInTimeAt a.net a.rows c.args.before.left c.args.number)) c.in-None.is c.late_among.ensures.none in
    search_kept a.net a.rows c.args.lasts.now c.args.number c.args.before none c.requires.before
