use Rattle.std.proofs.Common.{◌≡◌, [], drop, ◌∙◌, arith}
use Rattle.std.proofs.lemmas.List.{drop_all}
use Rattle.teg_net.specs.Nets.{lists_of}
use Rattle.token_shares.specs.BareNets.{bare, with_closed}
use Rattle.token_shares.proofs.Apart.{apart_rules}
use Rattle.token_shares.proofs.bare.bare_net.Goals as goal

pub new-requires-2 : goal.new-requires-2
new-requires-2 c =
    let net = c.args.net.now in
    let closed = c.args.closed.now in
    let all : drop c.loop-id.id-index closed ≡ [] = drop_all c.loop-id.id-index closed (omega arith) in
    let rest : lists_of net.transitions c.loop-id.places.items [] ≡ with_closed (bare net) closed = rw all at c.loop-id.invariant.rest in
    let same : c.in_ok-transitions.transitions.items ≡ net.transitions = c.in_ok-transitions.ensures ∙ c.transitions.ensures.value in
    rw (same, c.new.ensures.items, rest) (apart_rules net closed c.requires c.rules.ensures)
