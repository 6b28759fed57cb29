use Rattle.std.proofs.Common.{◌≡◌, ◌<◌, ◌≤◌, length, ap, arith}
use Rattle.teg_net.specs.declared.entries.PlaceId.{PlaceId}
use Rattle.teg_net.specs.Circuits.{place_at}
use Rattle.teg_net.proofs.Reading.{read_place}
use Rattle.teg_critical.proofs.HeightLaws.{can_pass, round_begins, round_lifted, round_kept, round_over}
use Rattle.teg_critical.proofs.heights.lift.Goals as goal
use Rattle.teg_critical.proofs.heights.lift.Goals.{then-lift_end, else-lift_end}

pub loop-number-init : goal.loop-number-init
loop-number-init c = round_begins c.args.net.now c.args.raised.now c.args.heights.now c.requires.heights

pub lift_end-requires : goal.lift_end-requires
lift_end-requires c =
    let net = c.args.net.now in
    let q : PlaceId = record { index = c.loop-number.number } in
    let l : q.index < length net.places = rw c.places-place-items.ensures.value at c.loop-number-test.true in
    let item : c.place-item.result ≡ place_at net q = read_place net c.places-place-items.result.now q c.place-item.result c.places-place-items.ensures.value l c.place-item.is in
    rw item (can_pass net c.args.raised.now c.requires.can c.loop-number.heights c.loop-number.invariant.are q l)

pub loop-number-preserved : goal.loop-number-preserved
loop-number-preserved c =
    let net = c.args.net.now in
    let raised = c.args.raised.now in
    let q : PlaceId = record { index = c.loop-number.number } in
    let l : q.index < length net.places = rw c.places-place-items.ensures.value at c.loop-number-test.true in
    let item : c.place-item.result ≡ place_at net q = read_place net c.places-place-items.result.now q c.place-item.result c.places-place-items.ensures.value l c.place-item.is in
    elim c.if-lift_end.branch [
      | then-lift_end w ↦
          rw w.lifted-is
          (round_lifted net raised c.requires.can c.args.heights.now c.loop-number.heights q l c.loop-number.lifted c.loop-number.invariant c.lift_end.new.heights
          (rw item at (c.lift_end.ensures.lifted w.if-lift_end.true)))
      | else-lift_end w ↦
          rw (w.lifted-is, c.lift_end.ensures.same w.if-lift_end.false)
          (round_kept net raised c.requires.can c.args.heights.now c.loop-number.heights q l c.loop-number.lifted c.loop-number.invariant (rw item at (c.lift_end.ensures.kept w.if-lift_end.false)))
    ]

pub returns-clause-heights : goal.returns-clause-heights
returns-clause-heights c = c.loop-number.invariant.are

pub returns-clause-more : goal.returns-clause-more
returns-clause-more c = c.loop-number.invariant.more

pub returns-clause-settled : goal.returns-clause-settled
returns-clause-settled c =
    let net = c.args.net.now in
    let all : length net.places ≤ c.loop-number.number =
    (let long = ap (λ z. length z) c.places-place-items.ensures.value in omega (arith, c.loop-number-test.false, c.loop-number.auto.number-end, long)) in
    round_over net c.args.raised.now c.args.heights.now c.loop-number.number c.loop-number.lifted c.loop-number.heights c.loop-number.invariant all
