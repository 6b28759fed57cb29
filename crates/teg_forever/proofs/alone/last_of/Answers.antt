use Rattle.std.proofs.Common.{ℕ, subst}
use Rattle.teg_net.proofs.NetRules.{net_ends}
use Rattle.forever_laws.specs.Late.{NoneLateTo}
use Rattle.teg_forever.proofs.alone.last_of.Goals as goal

pub returns-then-last-most-clause-tells : goal.returns-then-last-most-clause-tells
returns-then-last-most-clause-tells c = λ x least none.
    let net = c.args.plain.now.net in
    let r = c.args.plain.now.row in
    let given = c.net-net.ensures.given in
    let paced = c.in_ok-paced.ensures c.if-paced.true in
    let most = rw c.net-net.ensures.value at c.most_tokens.ensures.most in
    let last = c.last_to_see-last.ensures in
    c.paced_late_is_soon.ensures net (net_ends net given.rules) given.is_live x least r given.ends paced
    c.most_tokens.result c.most_tokens.ensures.some most (subst (λ (n : ℕ). NoneLateTo x r n) last none)
