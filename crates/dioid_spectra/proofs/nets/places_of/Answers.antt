use Rattle.std.specs.Int.{w128}
use Rattle.std.proofs.lemmas.Int.{to_z-of_z}
use Rattle.dioid_spectra.proofs.MatrixNetLaws.{places_more, places_same}
use Rattle.dioid_spectra.proofs.nets.places_of.Goals.{in-Some+in_ok-push-in-Some, in-None}
use Rattle.dioid_spectra.proofs.nets.places_of.Goals as goal

pub loop-number-preserved : goal.loop-number-preserved
loop-number-preserved c =
    let same = to_z-of_z w128 c.args.low c.ranges.low in
    let before = rw same at c.loop-number.invariant in
    elim c.match-branch-2.branch [
      | in-Some+in_ok-push-in-Some w ↦
          rw (same, w.places-is, w.in_ok-push-in-Some.ensures.items)
          (places_more c.args.a.now c.args.low c.loop-number.number c.loop-number.places.items w.in-Some.place before (rw (same, w.in-Some.is) at c.in_ok-place.ensures.place))
      | in-None w ↦
          rw (same, w.places-is)
          (places_same c.args.a.now c.args.low c.loop-number.number c.loop-number.places.items before (rw (same, w.in-None.is) at c.in_ok-place.ensures.place))
    ]
