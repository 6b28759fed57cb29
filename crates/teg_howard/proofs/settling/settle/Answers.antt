use Rattle.std.proofs.Common.{◌≡◌, refl}
use Rattle.teg_net.specs.PartAnswers.{first_transition_of}
use Rattle.policy_rounds.specs.PolicyLists.{policy_of}
use Rattle.policy_rounds.proofs.Turns.{root_member}
use Rattle.teg_howard.proofs.settling.settle.Goals as goal

pub root_of-root-requires-clause-not_empty : goal.root_of-root-requires-clause-not_empty
root_of-root-requires-clause-not_empty c = rw c.deref.ensures.value c.requires.can.circuit.circuit.not_empty

pub root_of-root-requires-clause-in_range : goal.root_of-root-requires-clause-in_range
root_of-root-requires-clause-in_range c = rw c.deref.ensures.value (λ k d l. (c.requires.can.circuit.inside k d l).in_range)

pub route-requires-clause-can : goal.route-requires-clause-can
route-requires-clause-can c =
    let net = c.args.part.now.net.now in
    let circuit = c.args.circuit.items in
    let r = c.requires.can in
    let root : c.root_of-root.result ≡ first_transition_of net circuit = rw c.deref.ensures.value at c.root_of-root.ensures in
    rw root
    (record {
      kept = r.kept;
      count_parts = r.parts_.count;
      count = r.count;
      is_policy = r.is_policy;
      in_range = r.in_range;
      member = root_member net c.args.part.now.parts.now c.args.part.now.number (policy_of c.args.policy.now) circuit r.circuit;
      small = r.small;
    })

pub returns : goal.returns
returns c =
    let root : c.root_of-root.result ≡ first_transition_of c.args.part.now.net.now c.args.circuit.items = rw c.deref.ensures.value at c.root_of-root.ensures in
    record {
      ratio = refl;
      circuit = refl;
      made = rw c.deref-2.ensures.value at c.in_ok-choices.ensures;
      members = rw root at c.in_ok-values.ensures;
    }
