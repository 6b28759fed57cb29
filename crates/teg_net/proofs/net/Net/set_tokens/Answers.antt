use Rattle.std.proofs.Common.{◌<◌, length, refl, sym, subst}
use Rattle.std.proofs.lemmas.List.{get_or_read}
use Rattle.teg_net.specs.Circuits.{no_place, place_at}
use Rattle.teg_net.specs.Changes.{MayHaveTokens, place_with_tokens}
use Rattle.teg_net.specs.Nets.{lists_of}
use Rattle.teg_net.proofs.Changing.{rules_kept, tokens_fit}
use Rattle.teg_net.proofs.net.Net.set_tokens.Goals as goal

pub invariant_of-self : goal.invariant_of-self
invariant_of-self c =
    let transitions = c.self.inside.transitions.items in
    let places = c.self.inside.places.items in
    let inputs = c.self.inside.inputs.items in
    let read = c.index_mut.result.now in
    let l : c.args.place.index < length places = subst (λ net. c.args.place.index < length net.places) (sym c.self.view_is) c.requires.place in
    let there = subst (λ net. MayHaveTokens (place_at net c.args.place) c.args.tokens) (sym c.self.view_is) c.requires.tokens in
    let may : MayHaveTokens read c.args.tokens =
    subst (λ p. MayHaveTokens p c.args.tokens) (sym (get_or_read places c.args.place.index read l c.index_mut.ensures.value no_place)) there
    in
    rules_kept transitions places inputs c.args.place.index read (place_with_tokens c.args.tokens read) c.self.invariant l c.index_mut.ensures.value refl
    (tokens_fit (lists_of transitions places inputs) read c.args.tokens may)
