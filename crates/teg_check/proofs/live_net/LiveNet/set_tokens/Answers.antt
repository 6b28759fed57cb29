use Rattle.std.proofs.Common.{◌<◌, length, subst, sym, ap, ◌∙◌}
use Rattle.teg_net.specs.Changes.{MayHaveTokens, with_tokens}
use Rattle.teg_net.specs.Circuits.{place_at}
use Rattle.teg_check.proofs.Changing.{tokens_go_back, tokens_may_go_back}
use Rattle.teg_check.proofs.live_net.LiveNet.set_tokens.Goals as goal

pub set_tokens-requires-in-Err-clause-tokens : goal.set_tokens-requires-in-Err-clause-tokens
set_tokens-requires-in-Err-clause-tokens c =
    let net = c.self.inside.net in
    let id = c.args.place in
    let l : id.index < length net.places = subst (λ n. id.index < length n.places) (sym c.self.view_is) c.requires.place in
    subst (λ n. MayHaveTokens (place_at n id) c.place.result.now.tokens) (sym c.set_tokens.ensures)
    (subst (λ p. MayHaveTokens (place_at (with_tokens net id c.args.tokens) id) p.tokens) (sym c.place.ensures) (tokens_may_go_back net id c.args.tokens c.rules.ensures l))

pub returns-in-Err-clause-kept : goal.returns-in-Err-clause-kept
returns-in-Err-clause-kept c =
    let net = c.self.inside.net in
    let id = c.args.place in
    let l : id.index < length net.places = subst (λ n. id.index < length n.places) (sym c.self.view_is) c.requires.place in
    c.set_tokens-in-Err.ensures
    ∙ (ap (λ n. with_tokens n id c.place.result.now.tokens) c.set_tokens.ensures
    ∙ (ap (λ p. with_tokens (with_tokens net id c.args.tokens) id p.tokens) c.place.ensures
    ∙ (tokens_go_back net id c.args.tokens l ∙ c.self.view_is)))
