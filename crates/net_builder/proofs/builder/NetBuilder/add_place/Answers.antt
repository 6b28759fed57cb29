use Rattle.std.proofs.Common.{List, subst}
use Rattle.std.specs.Prelude.{is_ok}
use Rattle.teg_net.specs.declared.entries.Place.{Place}
use Rattle.teg_net.specs.NetFaults.{IsNetFault}
use Rattle.teg_net.specs.Nets.{IsNet, lists_of}
use Rattle.net_builder.specs.Builds.{adding_place}
use Rattle.net_builder.proofs.Growing.{pushed}
use Rattle.net_builder.proofs.builder.NetBuilder.add_place.Goals as goal

pub returns-in-Some-clause-refused : goal.returns-in-Some-clause-refused
returns-in-Some-clause-refused c =
    let some = rw (c.deref.ensures.value, c.deref-2.ensures.value) at c.in-Some.ensures.some in
    subst (λ net. IsNetFault (adding_place net c.args.place) c.in-Some.fault) c.self.view_is (some c.self.inside.inputs.items c.self.invariant)

pub invariant_of-self : goal.invariant_of-self
invariant_of-self c =
    let none = rw (c.deref.ensures.value, c.deref-2.ensures.value) at c.in_default.ensures.none in
    pushed (λ (z : List Place). IsNet (lists_of c.self.inside.transitions.items z c.self.inside.inputs.items)) c.self.inside.places.items c.push.new.self.items c.args.place (is_ok c.push.result) c.push.ensures.items c.self.invariant (none c.self.inside.inputs.items c.self.invariant)

pub returns-clause-rules : goal.returns-clause-rules
returns-clause-rules c =
    let none = rw (c.deref.ensures.value, c.deref-2.ensures.value) at c.in_default.ensures.none in
    pushed (λ (z : List Place). IsNet (lists_of c.self.inside.transitions.items z c.self.inside.inputs.items)) c.self.inside.places.items c.push.new.self.items c.args.place (is_ok c.push.result) c.push.ensures.items c.self.invariant (none c.self.inside.inputs.items c.self.invariant)
