use Rattle.std.proofs.Common.{ap, ◌∙◌}
use Rattle.teg_net.specs.Nets.{lists_of}
use Rattle.teg_state.proofs.FoundLists.{is_net_after}
use Rattle.teg_state.proofs.rest.net_left.Goals as goal

pub returns-in-Ok-clause-net : goal.returns-in-Ok-clause-net
returns-in-Ok-clause-net c =
    is_net_after c.args.net.now c.args.history.now.run c.args.now c.in-Ok.rest c.rules.ensures
    (ap (λ n. n.transitions) c.in-Ok.ensures.net ∙ (c.in_ok-transitions.ensures ∙ c.transitions.ensures.value))
    (ap (λ n. n.places) c.in-Ok.ensures.net ∙ c.in_ok-places.ensures.places)
    (rw c.in-Ok.ensures.net c.in_ok-inputs.ensures.lists)

pub returns-in-Err-clause-refusal : goal.returns-in-Err-clause-refusal
returns-in-Err-clause-refusal c = (
  c.in_ok-places.ensures.left,
  c.in_ok-inputs.ensures.near,
  record {
    rest = lists_of c.in_ok-transitions.transitions.items c.in_ok-places.places.items c.in_ok-inputs.inputs.items;
    transitions = c.in_ok-transitions.ensures ∙ c.transitions.ensures.value;
    places = c.in_ok-places.ensures.places;
    inputs = c.in_ok-inputs.ensures.lists;
    is = c.in-Err.ensures.fault;
  },
)
