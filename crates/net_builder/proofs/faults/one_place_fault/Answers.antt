use Rattle.std.proofs.Common.{◌≡◌, sym, subst, arith}
use Rattle.std.specs.Prelude.{Any}
use Rattle.teg_net.specs.declared.entries.Place.{Place}
use Rattle.teg_net.proofs.Distinct.{not_both}
use Rattle.net_builder.proofs.Growing.{place_kept}
use Rattle.net_builder.proofs.Refusing.{many_places, same_place, bad_place}
use Rattle.net_builder.proofs.faults.one_place_fault.Goals as goal

pub returns-then-places-ge-MOST_PLACES-clause-some : goal.returns-then-places-ge-MOST_PLACES-clause-some
returns-then-places-ge-MOST_PLACES-clause-some c = λ ls ok. many_places c.args.transitions.now c.args.places.now ls ok c.args.place.now (omega arith)

pub returns-then-is_place_named-clause-some : goal.returns-then-is_place_named-clause-some
returns-then-is_place_named-clause-some c =
    λ ls ok.
    same_place c.args.transitions.now c.args.places.now ls ok c.args.place.now (omega arith)
    (subst (λ n. Any (λ (p : Place). p.name ≡ n) c.args.places.now) c.as_str.ensures.text (c.is_place_named.ensures.0 c.if-is_place_named.true))

pub returns-in-Some-clause-some : goal.returns-in-Some-clause-some
returns-in-Some-clause-some c =
    λ ls ok.
    bad_place c.args.transitions.now c.args.places.now ls ok c.args.place.now _ (omega arith)
    (λ any.
    not_both c.is_place_named.result c.if-is_place_named.false
    (c.is_place_named.ensures.1 (subst (λ n. Any (λ (p : Place). p.name ≡ n) c.args.places.now) (sym c.as_str.ensures.text) any)))
    c.in-Some.ensures.some

pub returns-clause-none : goal.returns-clause-none
returns-clause-none c =
    λ ls ok.
    place_kept c.args.transitions.now c.args.places.now ls c.args.place.now ok (omega arith) c.as_str.ensures.name
    (λ any.
    not_both c.is_place_named.result c.if-is_place_named.false
    (c.is_place_named.ensures.1 (subst (λ n. Any (λ (p : Place). p.name ≡ n) c.args.places.now) (sym c.as_str.ensures.text) any)))
    c.in_default.ensures.none
