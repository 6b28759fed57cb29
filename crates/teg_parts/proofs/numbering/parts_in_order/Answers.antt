use Rattle.std.proofs.Common.{ℕ, ◌≡◌, length, refl, ap, ◌∙◌, arith}
use Rattle.teg_parts.specs.PartNumbers.{component_at, IsFree, IsFirstFree, IsGiven, AllNumbered}
use Rattle.teg_net.proofs.Reading.{written_back}
use Rattle.teg_parts.proofs.Ordering.{numbered_more, all_numbered}
use Rattle.teg_parts.proofs.numbering.parts_in_order.Goals as goal

pub number-preserved : goal.number-preserved
number-preserved c =
    let net = c.args.net.now in
    let comps = c.args.components.now in
    let ns = c.number.numbers.items in
    let new = c.give_number.new.numbers in
    let ok = c.number.numbers.ok in
    let t = c.in-Some.transition in
    let h = c.number.invariant in
    let count : length new ≡ length ns = c.give_number.auto.numbers ∙ ap length c.deref_mut.ensures.value in
    let long : length new ≡ c.number.numbers.len = omega (arith, ok.0, count) in
    let whole = written_back new ns c.number.numbers.len long in
    let first : IsFirstFree net comps ns t = rw (c.in-Some.is, c.deref.ensures.value) at c.in_ok-transition.ensures.some in
    let given : IsGiven comps ns new (component_at comps t) c.number.next = rw c.deref_mut.ensures.value at c.give_number.ensures in
    let more = given.fewer t first.free.in_range refl first.free.unnumbered in
    let few = h.few in
    rw whole
    (record {
      numbered = numbered_more net c.rules.ensures comps c.requires ns new c.number.next t h.numbered first count given;
      few = omega arith;
    })

pub numbers_of-requires : goal.numbers_of-requires
numbers_of-requires c =
    let net = c.args.net.now in
    let comps = c.args.components.now in
    let ns = c.number.numbers.items in
    let none : (t : ℕ) → IsFree net comps ns t → ⊥ = rw (c.in_default.is, c.deref.ensures.value) at c.in_ok-transition.ensures.none in
    let all : AllNumbered ns = all_numbered net c.rules.ensures comps c.requires ns c.number.invariant.numbered.count none in
    rw c.deref-2.ensures.value all

pub returns-clause-order : goal.returns-clause-order
returns-clause-order c = record {
  numbers = c.number.numbers.items;
  numbered = c.number.invariant.numbered;
  told = rw c.deref-2.ensures.value at c.in_ok-part_of.ensures;
}
