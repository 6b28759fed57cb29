use Rattle.std.proofs.Common.{None, ◌≡◌, true, false, refl, sym, subst, ◌∙◌, arith}
use Rattle.teg_net.specs.declared.places_of.PlaceEnd.TheVariants.{From, To}
use Rattle.teg_parts.specs.Components.{AreReachedMarks, IsRooted, found_at}
use Rattle.teg_parts.proofs.Marks.{none_by, some_by}
use Rattle.teg_parts.proofs.Rooted.{has_found}
use Rattle.teg_parts.proofs.components.find_part.Goals as goal

pub returns-then-is_some : goal.returns-then-is_some
returns-then-is_some c = record {
  found = c.requires.found;
  kept = λ t n. n;
  numbered = some_by (found_at c.args.found.now c.args.root) false (sym c.is_some.ensures ∙ c.if-is_some.true) refl;
}

pub give_root-requires-clause-onward : goal.give_root-requires-clause-onward
give_root-requires-clause-onward c = rw c.deref.ensures.value (omega (arith, c.in_ok-reached.ensures.count, c.requires.found.count))

pub give_root-requires-clause-back : goal.give_root-requires-clause-back
give_root-requires-clause-back c = rw c.deref-2.ensures.value (omega (arith, c.in_ok-reaching.ensures.count, c.requires.found.count))

pub returns : goal.returns
returns c =
    let net = c.args.net.now in
    let root = c.args.root in
    let onward = c.in_ok-reached.reached.items in
    let back = c.in_ok-reaching.reaching.items in
    let reached : AreReachedMarks net From root onward = subst (λ w. AreReachedMarks net w root onward) c.requires.ways.onward_near c.in_ok-reached.ensures in
    let reaching : AreReachedMarks net To root back = subst (λ w. AreReachedMarks net w root back) c.requires.ways.back_near c.in_ok-reaching.ensures in
    let g : IsRooted onward back root c.args.found.now c.give_root.new.found = rw (c.deref.ensures.value, c.deref-2.ensures.value) at c.give_root.ensures in
    let new : found_at c.args.found.now root ≡ None = none_by (found_at c.args.found.now root) true (sym c.is_some.ensures ∙ c.if-is_some.false) refl in
    has_found net root onward back c.args.found.now c.give_root.new.found c.give_root.auto.found c.requires.root new c.requires.found reached reaching g
