use Rattle.std.proofs.Common.{◌≡◌, ◌<◌, ◌++◌, ◌∷◌, [], length, get_or, ◌∙◌, arith, rules}
use Rattle.std.proofs.lemmas.List.Elements.{All-set}
use Rattle.std.proofs.lemmas.Int.{to_z-of_z}
use mir.Val.{SFits}
use mir.Syntax.{w128}
use Rattle.teg_net.specs.declared.entries.PlaceId.{PlaceId}
use Rattle.teg_net.specs.Circuits.{from_of}
use Rattle.teg_net.specs.Parts.{to_of}
use Rattle.policy_rounds.specs.Policies.{first_id, offer_of}
use Rattle.teg_howard.specs.FoundCircuits.{potentials, IsFirstOn}
use Rattle.policy_rounds.specs.PolicyLists.{policy_of}
use Rattle.teg_howard.proofs.Values.{route_step, routed_all, routed_none, held_at}
use Rattle.teg_howard.proofs.NextJoins.{IsNextJoin, none_before_next, first_is_next, none_is_join}
use Rattle.teg_howard.proofs.settling.route.Goals as goal

pub route-init : goal.route-init
route-init c =
    let net = c.args.part.now.net.now in
    let r = c.requires.can in
    record {
      in_range = r.in_range;
      routed = (
        [],
        routed_none net c.args.part.now.parts.now c.args.part.now.number c.args.ratio.time c.args.ratio.tokens c.args.root
            (policy_of c.args.policy.now) r.is_policy c.in_ok-values.values.items c.in_ok-values.ensures.followed c.in_ok-values.ensures.all,
      );
      none_before = λ k l. absurd (omega arith);
    }

pub next_join-requires-clause-none_before : goal.next_join-requires-clause-none_before
next_join-requires-clause-none_before c = rw c.deref.ensures.value c.route.invariant.none_before

pub offer_from-requires-clause-within : goal.offer_from-requires-clause-within
offer_from-requires-clause-within c =
    let net = c.args.part.now.net.now in
    let h = c.route.invariant.routed.1 in
    let few = c.requires.can.kept.few_transitions in
    rw c.deref-in-Some.ensures.value
    (held_at net c.args.part.now.parts.now c.args.part.now.number c.args.ratio.time c.args.ratio.tokens c.args.root
    (policy_of c.route.policy) c.route.values.items h.valued (omega (arith, c.requires.can.count_parts))
    (from_of net (get_or c.args.part.now.ids.now c.in-Some.rank first_id)))

pub route-preserved : goal.route-preserved
route-preserved c =
    let net = c.args.part.now.net.now in
    let parts = c.args.part.now.parts.now in
    let r = c.requires.can in
    let inner = c.requires.inner in
    let ids = c.args.part.now.ids.now in
    let exits = c.args.part.now.exits.now in
    let rank = c.in-Some.rank in
    let joins = c.route.invariant.routed.0 in
    let h = c.route.invariant.routed.1 in
    let vs = c.route.values.items in
    let p : PlaceId = get_or ids rank first_id in
    let first : IsFirstOn net vs ids rank = rw c.deref.ensures.value at c.in-Some.ensures.some in
    let next : IsNextJoin net parts c.args.part.now.number vs p = first_is_next net ids parts c.args.part.now.number inner.lists vs rank first in
    let ends : c.end_of-member.result ≡ to_of net p = c.end_of-member.ensures in
    let member_in = next.join.inside.to_member.in_range in
    let exit_in : to_of net p < length exits = omega (arith, member_in, r.count_parts, inner.exits.count) in
    let offered = c.offer_from.result in
    let fits : SFits w128 offered = search rules in
    let o : offered ≡ offer_of net c.args.ratio.time c.args.ratio.tokens (potentials vs) p = rw c.deref-in-Some.ensures.value at c.offer_from.ensures in
    rw (c.min-from.ensures, ends, to_z-of_z w128 offered fits)
    (record {
      in_range = All-set (λ q. q.index < length net.places) c.route.policy (to_of net p) p next.join.inside.in_range c.route.invariant.in_range;
      routed = (
        joins ++ p ∷ [],
        route_step net parts c.args.part.now.number c.args.root c.args.ratio
            (policy_of c.args.policy.now) joins c.route.policy vs p offered r.kept r.small (c.route.auto.policy ∙ r.count) h next o,
      );
      none_before = none_before_next net ids vs rank (to_of net p) (get_or exits (to_of net p) 0) offered first.none_before
          (omega (arith, member_in, h.valued.count)) (inner.exits.first (to_of net p) exit_in);
    })

pub returns : goal.returns
returns c =
    let net = c.args.part.now.net.now in
    let ids = c.args.part.now.ids.now in
    let vs = c.route.values.items in
    let none = none_is_join net ids c.args.part.now.parts.now c.args.part.now.number c.requires.inner.lists vs (rw c.deref.ensures.value at c.in_default.ensures.none) in
    routed_all net c.args.part.now.parts.now c.args.part.now.number c.requires.can.kept c.requires.strong c.args.root c.requires.can.member
    c.args.policy.now c.route.policy c.args.ratio c.route.invariant.routed.0 vs c.route.invariant.in_range c.route.invariant.routed.1 none
