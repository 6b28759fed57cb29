use Rattle.std.proofs.Common.{rules, ◌≡◌, ◌≤◌, subst, sym}
use Rattle.dating_certificates.proofs.WholeRows.{same_count}
use Rattle.dating_check.proofs.first_late.are_least.Goals as goal

pub returns : goal.returns
returns c = λ yes x h t k l o few.
    let net = c.args.net.now in
    let dates = c.args.dates.now in
    let first = (c.in_ok-check_rows.ensures.first (search rules)).0 yes in
    let same : first.rows ≡ c.args.numbers = same_count net dates first.rows c.args.numbers c.rules.ensures first.whole (search rules) in
    first.same x h t k l o (subst (λ n. k ≤ n) (sym same) few)
