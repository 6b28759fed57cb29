use Rattle.std.proofs.Common.{◌≡◌, true, false, length, subst}
use Rattle.std.proofs.lemmas.Bool.{false≢true, iff_false}
use Rattle.teg_model.specs.Datings.{listed_releases}
use Rattle.dating_certificates.specs.CheckedRows.{date_in_rows}
use Rattle.dating_certificates.specs.TightRows.{AreTightUpTo}
use Rattle.dating_certificates.proofs.WholeRows.{same_count}
use Rattle.dating_certificates.proofs.LeastRows.{tells_first}
use Rattle.dating_certificates.proofs.rows.check_rows.Goals as goal

pub returns-then-not-all_within-clause-first : goal.returns-then-not-all_within-clause-first
returns-then-not-all_within-clause-first c =
    tells_first c.args.net.now c.args.dates.now false c.transitions-width.ensures.rules (
      λ (e : false ≡ true). absurd (false≢true e),
      λ h. absurd (iff_false c.all_within.ensures c.if-not-all_within.true h.within),
    )

pub returns-clause-tight : goal.returns-clause-tight
returns-clause-tight c =
    let net = c.args.net.now in
    let dates = c.args.dates.now in
    let x = date_in_rows (length net.transitions) dates in (
      λ t. record {
        rows = c.in-Some.rows;
        whole = c.in-Some.ensures.rows;
        within = c.all_within.ensures.0 c.if-not-all_within.false;
        tight = c.are_tight.ensures.0 t;
      },
      λ h. c.are_tight.ensures.1 (subst (AreTightUpTo net (listed_releases net) x)
          (same_count net dates h.rows c.in-Some.rows c.transitions-width.ensures.rules h.whole c.in-Some.ensures.rows) h.tight),
    )

pub returns-clause-first : goal.returns-clause-first
returns-clause-first c =
    tells_first c.args.net.now c.args.dates.now c.are_tight.result c.transitions-width.ensures.rules (returns-clause-tight c)
