use Rattle.std.proofs.Common.{◌∙◌, arith}
use Rattle.toml.specs.View.{view}
use Rattle.teg_reader.specs.NetOf.{net_of}
use Rattle.teg_reader.proofs.RuleLemmas.{good_transitions, sound_places, sound_inputs, few_names, net_rules}
use Rattle.teg_reader.proofs.entries.make_net.Goals as goal

pub make_transitions-requires : goal.make_transitions-requires
make_transitions-requires c = rw c.list_at-entries.ensures (good_transitions (view c.args.top.now) c.requires.accepted)

pub make_places-requires-clause-sound : goal.make_places-requires-clause-sound
make_places-requires-clause-sound c = rw (c.list_at.ensures, c.requires.names) (sound_places (view c.args.top.now) c.requires.accepted)

pub make_places-requires-clause-few : goal.make_places-requires-clause-few
make_places-requires-clause-few c =
    let few = few_names c.args.names.now.keys (view c.args.top.now) c.requires.accepted c.requires.names in
    omega arith

pub make_inputs-requires-clause-sound : goal.make_inputs-requires-clause-sound
make_inputs-requires-clause-sound c = rw (c.list_at-2.ensures, c.requires.names) (sound_inputs (view c.args.top.now) c.requires.accepted)

pub make_inputs-requires-clause-few : goal.make_inputs-requires-clause-few
make_inputs-requires-clause-few c =
    let few = few_names c.args.names.now.keys (view c.args.top.now) c.requires.accepted c.requires.names in
    omega arith

pub new-requires : goal.new-requires
unfolding net_of
new-requires c =
    let rules = net_rules (view c.args.top.now) c.requires.accepted in
    rw (c.in_ok-transitions.ensures, c.in_ok-places.ensures, c.in_ok-inputs.ensures, c.list_at-entries.ensures, c.list_at.ensures, c.list_at-2.ensures, c.requires.names) rules

pub returns : goal.returns
unfolding net_of
returns c = c.new.ensures ∙ rw (c.in_ok-transitions.ensures, c.in_ok-places.ensures, c.in_ok-inputs.ensures, c.list_at-entries.ensures, c.list_at.ensures, c.list_at-2.ensures, c.requires.names)
