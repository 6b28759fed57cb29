use Rattle.std.proofs.Common.{List, [], ◌++◌, get_or, ap, sym, subst, ◌∙◌}
use Rattle.std.specs.Prelude.{reverse}
use Rattle.std.proofs.lemmas.Iterator.Adapters.{fact_from_extend, YieldsList-from_rev_slice}
use Rattle.std.proofs.lemmas.List.Concat.{flat_map_single}
use Rattle.teg_net.specs.declared.entries.PlaceId.{PlaceId}
use Rattle.teg_parts.specs.PlacesAlong.{AddsPlacesAlong}
use Rattle.teg_parts.proofs.Adding.{added}
use Rattle.teg_parts.proofs.places_along.push_places_along.Goals as goal

pub returns : goal.returns
returns c =
    let net = c.args.net.now in
    let near = c.args.along.now.near in
    let t = c.args.transition in
    let old = c.args.agenda.now.items in
    let ids : List PlaceId = c.of.result.now in
    let adds : AddsPlacesAlong net near t old (old ++ reverse ids) = rw c.of.ensures (added net near t old (get_or c.args.along.now.places t []) (c.requires.along.each t c.requires.transition)) in
    fact_from_extend (λ y. y.now) c.extend.result c.extend.ensures.ran
    (λ it b. YieldsList-from_rev_slice ids (ap (λ r. r.iter.rest.now) b ∙ (ap (λ r. r.rest.now) c.rev.ensures.source ∙ c.iter.ensures.rest)))
    (λ xs e h. subst (AddsPlacesAlong net near t old) (sym (h.0 ∙ ap (λ w. old ++ w) (flat_map_single (λ y. y.now) xs ∙ e))) adds)
