use Rattle.std.proofs.Common.{Bor, ◌+◌, ◌<◌, ◌++◌, ◌∷◌, [], List, ℕ, length, map, take, refl, sym, subst, arith}
use Rattle.std.proofs.lemmas.List.{length-map}
use Rattle.witness_check.specs.NamedPlaces.{AreNamed}
use Rattle.witness_check.proofs.NamedPlaces.{named_more, none_named}
use Rattle.witness_check.proofs.names.places_of.Goals as goal

pub returns-in-None : goal.returns-in-None
returns-in-None c =
    let names : List (List ℕ) = map (λ x. x.now) c.args.names.now in
    let long = length-map c.args.names.now (λ (x : Bor (List ℕ)). x.now) in
    let here : c.loop-index.index < length names = omega (arith, c.loop-index-test.true, long) in
    none_named c.args.net.now names c.loop-index.index c.text_at-name.result.now here (sym c.text_at-name.ensures) (c.in-None.ensures.none.0 refl)

pub loop-index-preserved : goal.loop-index-preserved
loop-index-preserved c =
    let names : List (List ℕ) = map (λ x. x.now) c.args.names.now in
    let long = length-map c.args.names.now (λ (x : Bor (List ℕ)). x.now) in
    let here : c.loop-index.index < length names = omega (arith, c.loop-index-test.true, long) in
    let one : AreNamed c.args.net.now (take (c.loop-index.index + 1) names) (c.loop-index.places.items ++ c.in-Some.id ∷ []) =
    named_more c.args.net.now names c.loop-index.index c.loop-index.places.items c.in-Some.id c.text_at-name.result.now here (sym c.text_at-name.ensures) c.in-Some.ensures.found
    c.loop-index.invariant in
    subst (AreNamed c.args.net.now (take (c.loop-index.index + 1) names)) (sym c.in_ok-push-in-Some.ensures.items) one
