use Rattle.teg_net.proofs.NetRules.{rules_hold}
use Rattle.teg_net.proofs.NetFaultLaws.{places_along, bad_place_along, bad_input_along}
use Rattle.teg_net.proofs.rules.net_fault.Goals as goal

pub returns-in-Some-clause-some : goal.returns-in-Some-clause-some
returns-in-Some-clause-some c = c.in-Some.ensures.some c.args.inputs.now

pub same_transition-requires : goal.same_transition-requires
same_transition-requires c = record { few = (c.in_default.ensures.none c.args.inputs.now).1 }

pub same_place-requires : goal.same_place-requires
same_place-requires c = record { few = (c.in_default.ensures.none c.args.inputs.now).2 }

pub bad_place-requires : goal.bad_place-requires
bad_place-requires c = record { few = (c.in_default.ensures.none c.args.inputs.now).2 }

pub returns-in-Some-bad_place-clause-some : goal.returns-in-Some-bad_place-clause-some
returns-in-Some-bad_place-clause-some c = (
  c.in_default.ensures.none c.args.inputs.now,
  c.in_default-same_transition.ensures.none,
  c.in_default-same_place.ensures.none,
  bad_place_along c.args.transitions.now c.args.places.now c.args.inputs.now _ c.args.places.now _ c.in-Some-bad_place.ensures.some,
)

pub returns-in-Some-same_input-clause-some : goal.returns-in-Some-same_input-clause-some
returns-in-Some-same_input-clause-some c = (
  c.in_default.ensures.none c.args.inputs.now,
  c.in_default-same_transition.ensures.none,
  c.in_default-same_place.ensures.none,
  places_along c.args.transitions.now c.args.places.now c.args.inputs.now c.args.places.now c.in_default-bad_place.ensures.none,
  c.in-Some-same_input.ensures.some,
)

pub returns-in-Some-bad_input-clause-some : goal.returns-in-Some-bad_input-clause-some
returns-in-Some-bad_input-clause-some c = (
  c.in_default.ensures.none c.args.inputs.now,
  c.in_default-same_transition.ensures.none,
  c.in_default-same_place.ensures.none,
  places_along c.args.transitions.now c.args.places.now c.args.inputs.now c.args.places.now c.in_default-bad_place.ensures.none,
  c.in_default-same_input.ensures.none,
  bad_input_along c.args.transitions.now c.args.places.now c.args.inputs.now _ c.args.inputs.now _ c.in-Some-bad_input.ensures.some,
)

pub returns-clause-none : goal.returns-clause-none
returns-clause-none c =
    rules_hold c.args.transitions.now c.args.places.now c.args.inputs.now (c.in_default.ensures.none c.args.inputs.now)
    (c.transitions_are_named.ensures, c.places_are_named.ensures, c.in_default-bad_place.ensures.none, c.in_default-bad_input.ensures.none)
    (c.in_default-same_transition.ensures.none, c.in_default-same_place.ensures.none, c.in_default-same_input.ensures.none)
