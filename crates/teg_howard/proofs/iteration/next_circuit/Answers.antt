use Rattle.std.proofs.Common.{◌≡◌, ◌∙◌, rules}
use Rattle.std.proofs.lemmas.List.Elements.{same_from_all_zip}
use Rattle.teg_howard.specs.FoundCircuits.{IsBestFound}
use Rattle.policy_rounds.specs.PolicyLists.{policy_of}
use Rattle.teg_howard.proofs.RoundStates.{step_policy, ready_new, goes_new, ready_same, goes_same}
use Rattle.teg_howard.proofs.iteration.next_circuit.Goals as goal

pub best_circuit-requires-clause-policy : goal.best_circuit-requires-clause-policy
best_circuit-requires-clause-policy c =
    let i = c.requires.improved in
    record {
      count = i.count;
      is_policy = step_policy c.args.part.now.net.now c.args.part.now.parts.now c.args.part.now.number i.policy c.args.policy.now c.args.state.now c.args.changed.now i.standing i.up;
      in_range = i.up.in_range;
    }

pub returns-in-Some : goal.returns-in-Some
returns-in-Some c =
    let net = c.args.part.now.net.now in
    let parts = c.args.part.now.parts.now in
    let part = c.args.part.now.number in
    let ps = c.args.policy.now in
    let st = c.args.state.now in
    let marked = c.args.changed.now in
    let i = c.requires.improved in
    let f = c.in-Some.found in
    let r = c.of.result in
    let e = c.of.ensures in
    let best : IsBestFound net parts part (policy_of ps) marked f = rw c.in-Some.is at c.in_ok-found.ensures.some in
    let can = ready_new net parts part i.policy ps st marked r f c.requires.circuit i.standing i.up i.count best e.ratio e.time e.tokens in
    record { can = can; gives = λ routed next count h. goes_new net parts part i.policy ps routed st next marked r f c.requires.circuit i.standing i.up best e.ratio can (count ∙ i.count) h }

pub returns-in_ok-circuit-in-None : goal.returns-in_ok-circuit-in-None
returns-in_ok-circuit-in-None c =
    let net = c.args.part.now.net.now in
    let parts = c.args.part.now.parts.now in
    let part = c.args.part.now.number in
    let ps = c.args.policy.now in
    let st = c.args.state.now in
    let marked = c.args.changed.now in
    let i = c.requires.improved in
    let none = rw c.in-None.is at c.in_ok-found.ensures.none in
    let can = ready_same net parts part i.policy ps st marked c.requires.circuit i.standing i.up i.count none in
    let same : c.in_ok-circuit-in-None.circuit.items ≡ st.round.circuit.places.items =
    same_from_all_zip _ st.round.circuit.places.items c.in_ok-circuit-in-None.circuit.items c.in_ok-circuit-in-None.ensures.cases.0 (λ x y r. search rules) in
    rw same (record {
      can = can;
      gives = λ routed next count h. goes_same net parts part i.policy ps routed st next marked
          c.requires.circuit i.standing i.up none i.some.0 i.some.1 can (count ∙ i.count) h;
    })
