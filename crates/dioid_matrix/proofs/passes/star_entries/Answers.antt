use Rattle.std.proofs.Common.{◌≡◌, rules}
use Rattle.std.proofs.lemmas.Result.{err_from_is_err_and}
use Rattle.dioid_matrix.proofs.Recursion.{after_pass, refused_pass, answers_star}
use Rattle.dioid_matrix.proofs.passes.star_entries.Goals as goal

pub returns-in_err-table-2 : goal.returns-in_err-table-2
returns-in_err-table-2 g c =
    let refused = rw c.as_slice.ensures.value at c.in_err-table-2.ensures in
    let p = err_from_is_err_and c.from_residual-in_err-table-2.result c.from_residual-in_err-table-2.ensures.1 in
    rw (p.1, p.2) (refused_pass g.D.Dioid g.D.Kleene c.args.size c.args.entries.now c.loop-k.k c.loop-k.table.items c.loop-k-test.true c.loop-k.invariant.after _ refused)

pub loop-k-preserved : goal.loop-k-preserved
loop-k-preserved g c =
    let passed = rw c.as_slice.ensures.value at c.in_ok-table-2.ensures in
    record {
      len = passed.0;
      after = after_pass g.D.Dioid g.D.Kleene c.args.size c.args.entries.now c.loop-k.k c.loop-k.table.items c.in_ok-table-2.table.items c.loop-k-test.true c.loop-k.invariant.after passed.2;
    }

pub returns : goal.returns
returns g c =
    let whole : c.loop-k.k ≡ c.args.size = search rules in
    let after = rw whole at c.loop-k.invariant.after in
    let last = rw c.as_slice-2.ensures.value at c.finish.ensures in
    answers_star g.D.Dioid g.D.Kleene c.args.size c.args.entries.now g.met.D.Dioid.closed g.met.D.Dioid.laws g.met.D.Kleene.star_laws
    c.requires.some c.requires.few c.requires.elements c.loop-k.table.items after c.finish.result last
