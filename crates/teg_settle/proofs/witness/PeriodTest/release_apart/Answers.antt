use Rattle.std.proofs.Common.{length, ap, arith, rules}
use Rattle.std.specs.Prelude.{FitsSigned}
use Rattle.std.specs.Int.{w128}
use Rattle.std.proofs.lemmas.Int.{to_z-of_z}
use borrow.Author.Count.{below_more}
use Rattle.teg_settle.specs.InitialReleases.{release_by}
use Rattle.teg_settle.specs.ComparedRows.{GoesOnBy, read_step}
use Rattle.teg_settle.proofs.witness.PeriodTest.release_apart.Goals as goal

pub returns-in-Some : goal.returns-in-Some
returns-in-Some c = λ tests.
    let i = c.loop-index.index in
    let is = ap (λ v. read_step v.rows v.period i) c.self.view_is in
    let l = rw c.transitions-index-end.ensures.value at c.loop-index-test.true in
    let fits : FitsSigned w128 c.step_in-step.result = search rules in
    let apart = simp to_z-of_z at (rw c.in-Some.is at c.last_release_apart.ensures) in
    apart (rw (c.step_in-step.ensures, is) (tests.alike i (omega (arith, l, ap (λ v. length v.net.transitions) c.self.view_is))))

pub loop-index-preserved : goal.loop-index-preserved
loop-index-preserved c =
    let i = c.loop-index.index in
    let is = ap (λ v. read_step v.rows v.period i) c.self.view_is in
    let fits : FitsSigned w128 c.step_in-step.result = search rules in
    let alike = simp to_z-of_z at (rw c.in-None.is at c.last_release_apart.ensures) in
    below_more (λ t. GoesOnBy (release_by c.args.self.now.releases.waits.items c.args.self.now.net t) c.args.self.now.after c.args.self.now.period
    (read_step c.args.self.now.rows c.args.self.now.period t)) i c.loop-index.invariant
    (rw (c.step_in-step.ensures, is) at alike)
