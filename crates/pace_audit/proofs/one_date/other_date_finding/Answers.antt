use Rattle.std.proofs.Common.{rules}
use Rattle.std.proofs.lemmas.Bool.{iff_false}
use Rattle.answer_check.specs.ShownDates.{IsOtherDate}
use Rattle.answer_check.proofs.Firings.{known_firing, other_date_not_shown}
use Rattle.pace_audit.proofs.one_date.other_date_finding.Goals as goal

pub returns-then-branch : goal.returns-then-branch
returns-then-branch c =
    let net = c.args.net.now in
    let other : IsOtherDate net c.args.list.now c.args.text.now = c.in_ok-refutes_date.ensures.0 (search rules) in
    (other.3.4.live, λ says. other_date_not_shown net c.args.list.now c.args.text.now c.rules.ensures other says.0 says.1)

pub returns-else-branch : goal.returns-else-branch
returns-else-branch c =
    let net = c.args.net.now in
    let none : IsOtherDate net c.args.list.now c.args.text.now → ⊥ = iff_false c.in_ok-refutes_date.ensures (search rules) in
    λ t k word firing row. known_firing net c.args.list.now c.args.text.now t k word c.requires none firing row
