use Rattle.std.proofs.Common.{◌≡◌, ◌∙◌, true, false, subst}
use Rattle.std.specs.Prelude.{IsTrue, ◌↔◌}
use Rattle.std.proofs.lemmas.Bool.{false≢true, iff_false}
use Rattle.latest_certificates.specs.LatestRows.{AreLocallyLatest}
use Rattle.dating_certificates.proofs.WholeRows.{same_count}
use Rattle.latest_certificates.proofs.SolvedRows.{AreSolvedUpTo, solve_solved, tells_local, tells_latest}
use Rattle.latest_certificates.proofs.latest.check_latest.Goals as goal

pub returns-then-rows-from-clause-local : goal.returns-then-rows-from-clause-local
returns-then-rows-from-clause-local c = λ dues lists. (
  λ (e : false ≡ true). absurd (false≢true e),
  λ h. absurd (c.if-rows-from.true (rw c.from.ensures (same_count c.args.net.now c.args.dates.now c.in-Some.rows c.args.numbers c.transitions-width.ensures.rules c.in-Some.ensures.rows h.whole))),
)

pub returns-then-rows-from-clause-latest : goal.returns-then-rows-from-clause-latest
returns-then-rows-from-clause-latest c = λ live dues lists.
    tells_latest c.args.net.now dues c.args.numbers c.args.dates.now false c.transitions-width.ensures.rules (returns-then-rows-from-clause-local c dues lists) live

pub returns-then-not-keeps_rows-clause-local : goal.returns-then-not-keeps_rows-clause-local
returns-then-not-keeps_rows-clause-local c = λ dues lists.
    let net = c.args.net.now in
    let dates = c.args.dates.now in
    let numbers = c.in-Some.rows in
    let rows = c.args.due.now.rows.items in
    let ok = c.transitions-width.ensures.rules in
    let kept = rw (c.new-told.ensures, c.deref.ensures.value) at c.keeps_rows.ensures in
    let e : numbers ≡ c.args.numbers = c.if-rows-from.false ∙ c.from.ensures in
    subst (λ m. IsTrue false ↔ AreLocallyLatest net dues m dates) e (
      λ (e : false ≡ true). absurd (false≢true e),
      λ h. absurd (iff_false kept c.if-not-keeps_rows.true (solve_solved net rows dues numbers dates ok c.requires lists h.solve).0),
    )

pub returns-then-not-keeps_rows-clause-latest : goal.returns-then-not-keeps_rows-clause-latest
returns-then-not-keeps_rows-clause-latest c = λ live dues lists.
    tells_latest c.args.net.now dues c.args.numbers c.args.dates.now false c.transitions-width.ensures.rules (returns-then-not-keeps_rows-clause-local c dues lists) live

pub returns-clause-local : goal.returns-clause-local
returns-clause-local c = λ dues lists.
    let net = c.args.net.now in
    let dates = c.args.dates.now in
    let numbers = c.in-Some.rows in
    let rows = c.args.due.now.rows.items in
    let ok = c.transitions-width.ensures.rules in
    let kept = rw (c.new-told.ensures, c.deref.ensures.value) at c.keeps_rows.ensures in
    let solved = rw (c.new-told.ensures, c.deref-2.ensures.value) at c.are_solved.ensures in
    let both : IsTrue c.are_solved.result ↔ AreSolvedUpTo net rows numbers dates = (λ t. (kept.0 c.if-not-keeps_rows.false, solved.0 t), λ h. solved.1 h.1) in
    let e : numbers ≡ c.args.numbers = c.if-rows-from.false ∙ c.from.ensures in
    subst (λ m. IsTrue c.are_solved.result ↔ AreLocallyLatest net dues m dates) e (tells_local net rows dues numbers dates c.are_solved.result ok c.requires lists c.in-Some.ensures.rows both)

pub returns-clause-latest : goal.returns-clause-latest
returns-clause-latest c = λ live dues lists.
    tells_latest c.args.net.now dues c.args.numbers c.args.dates.now c.are_solved.result c.transitions-width.ensures.rules (returns-clause-local c dues lists) live
