use Rattle.std.proofs.Common.{true, ◌≡◌, length, ◌∙◌, rules}
use lib.ListN.{replicate}
use Rattle.teg_net.specs.Parts.{to_of}
use Rattle.policy_rounds.specs.Policies.{step_back}
use Rattle.teg_howard.specs.FoundCircuits.{IsBestFound}
use Rattle.policy_rounds.specs.PolicyLists.{policy_of}
use Rattle.teg_howard.proofs.Exits.{some_by, all_marked, any_marked}
use Rattle.policy_rounds.proofs.Back.{to_a_circuit, trail}
use Rattle.teg_howard.proofs.RoundStates.{can_settle, settled_stands, first_stands}
use Rattle.teg_howard.proofs.iteration.first_circuit.Goals as goal

pub best_circuit-requires-clause-policy : goal.best_circuit-requires-clause-policy
best_circuit-requires-clause-policy c =
    let begins = c.requires.begins in
    record { count = begins.count; is_policy = begins.is_policy; in_range = begins.in_range }

pub unwrap-found-requires : goal.unwrap-found-requires
unwrap-found-requires c =
    let net = c.args.part.now.net.now in
    let parts = c.args.part.now.parts.now in
    let part = c.args.part.now.number in
    let π = policy_of c.args.policy.now in
    let inner = c.requires.circuit.inner in
    let way = to_a_circuit net parts part π c.requires.begins.is_policy (to_of net inner.0) inner.1.to_member in
    let filled : c.in_ok-everywhere.everywhere.items ≡ replicate (length parts) true = c.in_ok-everywhere.ensures.items_if_clones_equal (search rules) in
    some_by c.in_ok-best_circuit.field-0 _ c.in_ok-best_circuit.ensures.none
    (λ none. none (trail net π way.1 (step_back net π way.0 (to_of net inner.0))) way.4
    (any_marked net parts part c.deref.result.now (trail net π way.1 (step_back net π way.0 (to_of net inner.0))) (c.deref.ensures.value ∙ filled) way.4.circuit.not_empty way.4.inside))

pub returns : goal.returns
returns c =
    let net = c.args.part.now.net.now in
    let parts = c.args.part.now.parts.now in
    let part = c.args.part.now.number in
    let ps = c.args.policy.now in
    let begins = c.requires.begins in
    let f = c.unwrap-found.result in
    let r = c.of.result in
    let e = c.of.ensures in
    let best : IsBestFound net parts part (policy_of ps) c.deref.result.now f = rw c.unwrap-found.ensures at c.in_ok-best_circuit.ensures.some in
    let filled : c.in_ok-everywhere.everywhere.items ≡ replicate (length parts) true = c.in_ok-everywhere.ensures.items_if_clones_equal (search rules) in
    let can = can_settle net parts part ps r f c.deref.result.now c.requires.circuit begins.count begins.is_policy begins.in_range best e.ratio e.time e.tokens in
    record {
      can = can;
      gives = λ routed st count h.
          let standing = settled_stands net parts part ps routed r f.places.items st can begins.outside (count ∙ begins.count) h in
          record {
            standing = standing;
            begins = first_stands net parts part ps routed c.deref.result.now r f st
                (λ t m. rw (c.deref.ensures.value, filled) (all_marked (length parts) t m.in_range)) best standing h;
          };
    }
