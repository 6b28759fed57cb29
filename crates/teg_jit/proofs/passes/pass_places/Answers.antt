use Rattle.std.proofs.Common.{ℕ, ◌+◌, ◌≡◌, length, get_or, Some, sym, arith, ◌∙◌}
use Rattle.std.proofs.lemmas.List.{get_or_default, length-set}
use Rattle.teg_net.specs.declared.entries.Place.{Place}
use Rattle.teg_net.specs.Nets.{IsNet}
use Rattle.teg_net.specs.Circuits.{place_at}
use Rattle.date_rows.specs.DateTables.{firing_position}
use Rattle.teg_jit.specs.declared.order.Depth.{Depth}
use Rattle.teg_jit.specs.Plans.{latest_in}
use Rattle.teg_jit.specs.GoingBack.{date_there}
use Rattle.teg_jit.proofs.Passing.{none_depth, place_none, place_some, has_room, number_done, read_place}
use Rattle.teg_jit.proofs.passes.pass_places.Goals as goal
use Rattle.teg_jit.proofs.passes.pass_places.Goals.{in-Some, in-None}

pub overflow_sub-date : goal.overflow_sub-date
overflow_sub-date c =
    let net = c.args.net.now in
    let i = c.loop-depth.depth-index in
    let o : Depth = get_or c.args.order.now i none_depth in
    let width = c.transitions-width.ensures.value in
    let ok : IsNet net = c.places-places.ensures.rules in
    let known = c.requires.order.2.known i none_depth c.loop-depth-test.true in
    let p : Place = place_at net o.place in
    let item : c.index-places-depth.result ≡ p = read_place net c.places-places.result.now o.place.index c.index-places-depth.result
    c.places-places.ensures.value known.in_range c.index-places-depth.is in
    let read : c.date_at.result ≡ date_there (latest_in (length net.transitions) c.loop-depth.dates p.to.index (c.args.number + p.tokens)) = rw (width, item) at c.date_at.ensures.date in
    let room = c.requires.passed in
    let h = c.loop-depth.invariant.passed room.0 room.1 in
    rw item
    ((has_room net room.0 c.args.order.now c.args.last c.args.number
    (length net.transitions) i i c.in-Some.date o.place c.loop-depth.dates room.2.0 ok room.2.1 room.2.2 h known.in_range
    c.requires.number.one (sym c.in-Some.is ∙ read)).0)

pub loop-depth-init : goal.loop-depth-init
loop-depth-init c = record { full = c.requires.number.full; passed = λ due h. h c.args.order.now }

pub loop-depth-preserved : goal.loop-depth-preserved
loop-depth-preserved c = record {
  full = elim c.match-date_at.branch [
    | in-Some w ↦ rw (w.dates-is, w.lower.ensures) (length-set _ _ _ ∙ c.loop-depth.invariant.full)
    | in-None w ↦ rw w.dates-is c.loop-depth.invariant.full
  ];
  passed = λ due s.
      let net = c.args.net.now in
      let n : ℕ = length net.transitions in
      let i = c.loop-depth.depth-index in
      let l = c.loop-depth-test.true in
      let o : Depth = get_or c.args.order.now i none_depth in
      let at : (d : Depth) → get_or c.args.order.now i d ≡ o = λ d. get_or_default c.args.order.now i d none_depth l in
      let width = c.transitions-width.ensures.value in
      let ok : IsNet net = c.places-places.ensures.rules in
      let known = c.requires.order.2.known i none_depth l in
      let p : Place = place_at net o.place in
      let item : c.index-places-depth.result ≡ p =
      read_place net c.places-places.result.now o.place.index c.index-places-depth.result c.places-places.ensures.value known.in_range
      c.index-places-depth.is in
      let read : c.date_at.result ≡ date_there (latest_in n c.loop-depth.dates p.to.index (c.args.number + p.tokens)) = rw (width, item) at c.date_at.ensures.date in
      let h = c.loop-depth.invariant.passed due s in
      elim c.match-date_at.branch [
        | in-Some w ↦
            let some : Some w.in-Some.date ≡ date_there (latest_in n c.loop-depth.dates p.to.index (c.args.number + p.tokens)) = sym w.in-Some.is ∙ read in
            let cell : w.cell_of.result ≡ firing_position n p.from.index c.args.number = rw (width, item) at w.cell_of.ensures.value in
            let room = c.requires.passed in
            let fits = (has_room net room.0 c.args.order.now c.args.last c.args.number n i i w.in-Some.date o.place c.loop-depth.dates
            room.2.0 ok room.2.1 room.2.2 (c.loop-depth.invariant.passed room.0 room.1) known.in_range c.requires.number.one some).0 in
            rw (w.dates-is, w.lower.ensures, cell, item)
            (place_some net due c.requires.order.0 c.args.order.now c.args.last c.args.number i w.in-Some.date o c.loop-depth.dates ok c.requires.order.1 c.requires.order.2
            (λ x f keeps. (has_room net due c.args.order.now c.args.last c.args.number n i i w.in-Some.date o.place c.loop-depth.dates x ok f keeps h known.in_range c.requires.number.one some).1)
            fits h l at c.requires.number.one c.requires.number.within some)
        | in-None w ↦ rw w.dates-is (place_none net due c.args.order.now c.args.last c.args.number i o c.loop-depth.dates h at (sym w.in-None.is ∙ read))
      ];
}

pub returns : goal.returns
returns c = λ due s.
    let last : c.loop-depth.depth-index ≡ length c.args.order.now = omega (arith, c.loop-depth-test.false, c.loop-depth.auto.depth-index-end) in
    number_done c.args.net.now due c.requires.order.0 c.args.order.now c.args.last c.args.number c.loop-depth.depth-index
    c.loop-depth.dates c.requires.order.2 c.requires.number.one last (c.loop-depth.invariant.passed due s)
