use Rattle.std.proofs.Common.{◌<◌, ◌∷◌, length, refl, subst, arith}
use Rattle.teg_net.specs.Circuits.{from_of}
use Rattle.teg_critical.specs.Hops.{hop_at}
use Rattle.teg_critical.proofs.HopLaws.{hop_of, IsTraced, count_of, trace_begins, trace_smaller, trace_in, trace_back, traced, trace_circuit}
use Rattle.teg_critical.proofs.hops.circuit_back.Goals as goal

pub back-init : goal.back-init
back-init c =
    let net = c.args.net.now in
    let count = c.requires.hops.count in
    let low = c.start_of-end.ensures.in_range in
    let start = c.start_of-end.ensures.start in
    rw (start, c.new-places.ensures.items) (trace_begins net c.args._usable.now c.args.place c.args.hops.now c.requires.hops (from_of net c.args.place) (omega
    (arith, count, low, start)) c.requires.reached)

pub start_of-at-requires : goal.start_of-at-requires
start_of-at-requires c =
    let step = c.in-Some.ensures in
    subst (λ z. z.index < length c.args.net.now.places) step.3
    (trace_in c.args.net.now c.args._usable.now c.args.place c.args.hops.now c.requires.hops c.start_of-end.ensures.rules (from_of c.args.net.now c.args.place)
    c.back.at c.back.places.items c.back.invariant step.0 step.1 step.2)

pub back-smaller : goal.back-smaller
back-smaller c =
    let step = c.in-Some.ensures in
    rw c.start_of-at.ensures.start
    (subst (λ z. count_of c.args.hops.now (from_of c.args.net.now z) < count_of c.args.hops.now c.back.at) step.3
    (trace_smaller c.args.net.now c.args._usable.now c.args.place c.args.hops.now c.requires.hops c.start_of-end.ensures.rules (from_of c.args.net.now c.args.place)
    c.back.at c.back.places.items c.back.invariant step.0 step.1 step.2))

pub back-preserved : goal.back-preserved
back-preserved c =
    let net = c.args.net.now in
    let step = c.in-Some.ensures in
    rw (c.in_ok-insert.ensures.items, c.start_of-at.ensures.start)
    (subst (λ z. IsTraced net c.args._usable.now c.args.hops.now (from_of net c.args.place) (from_of net z) (z ∷ c.back.places.items)) step.3
    (trace_back net c.args._usable.now c.args.place c.args.hops.now c.requires.hops c.start_of-end.ensures.rules (from_of net c.args.place) c.back.at
    c.back.places.items c.back.invariant step.0 step.1 step.2))

pub returns-clause-circuit : goal.returns-clause-circuit
returns-clause-circuit c =
    let net = c.args.net.now in
    let h = c.back.invariant in
    let hop = hop_of (hop_at c.args.hops.now c.back.at) h.reached in
    let none = c.in_default.ensures hop.0 hop.1 in
    rw c.in_ok-insert-2.ensures.items
    (trace_circuit net c.args._usable.now c.args.place c.args.hops.now c.requires.hops c.back.at c.back.places.items h
    (traced net c.args._usable.now c.args.place c.args.hops.now c.requires.hops c.start_of-end.ensures.rules (from_of net c.args.place) c.back.at c.back.places.items h hop.0 hop.1 none)
    c.requires.place)

pub returns-clause-usable : goal.returns-clause-usable
returns-clause-usable c = rw c.in_ok-insert-2.ensures.items (c.back.places.items, refl, c.back.invariant.may)
