use Rattle.std.proofs.Common.{Some, None, ◌≡◌, ◌++◌, ◌∷◌, [], get_or, set, arith, rules}
use Rattle.std.proofs.lemmas.List.{get_or_read}
use Rattle.std.proofs.lemmas.Int.{to_z-of_z}
use mir.Val.{SFits}
use mir.Syntax.{w128}
use Rattle.teg_net.specs.Circuits.{from_of}
use Rattle.policy_rounds.specs.Policies.{offer_of}
use Rattle.teg_howard.specs.FoundCircuits.{potentials}
use Rattle.policy_rounds.specs.PolicyLists.{policy_of}
use Rattle.teg_howard.specs.Following.{Followed}
use Rattle.teg_howard.proofs.Values.{followed_start, follow_step, held_at}
use Rattle.teg_howard.proofs.Spreading.{Spreading, Waits, spread_less, spread_last, spread_start, spread_more, waits_follows}
use Rattle.teg_howard.proofs.following.follow.Goals as goal

pub follow-init : goal.follow-init
follow-init c =
    let root = c.args.root in
    let r = c.requires in
    let links = c.in_ok-followers.ensures in
    let alone = c.in_ok-values.ensures in
    let highest = c.in_ok-followers.followers.highest.items in
    let value : c.index.result.now ≡ get_or highest root None = get_or_read highest root c.index.result.now (omega (arith, r.member.in_range, links.highest_count)) c.index.ensures None in
    rw (c.in_ok-add.ensures, c.new-waiting.ensures.items, value)
    (spread_start c.args.part.now.net.now c.args.part.now.parts.now c.args.part.now.number
    (policy_of c.args.policy.now) root c.args.ratio.time c.args.ratio.tokens c.in_ok-values.values.items c.in_ok-followers.followers r.member links
    (followed_start c.args.part.now.net.now c.args.part.now.parts.now c.args.part.now.number c.args.ratio.time c.args.ratio.tokens
    root (policy_of c.args.policy.now) c.in_ok-values.values.items r.member alone) alone.others)

pub offset_bounds-policy-member : goal.offset_bounds-policy-member
offset_bounds-policy-member c =
    let w = spread_last _ _ _ _ _ _ _ _ _ _ (rw c.in-Some.ensures.items at c.follow.invariant) in
    let few = c.requires.kept.few_transitions in
    omega (arith, w.at.member.in_range, c.requires.count_parts)

pub bounds-policy-member : goal.bounds-policy-member
bounds-policy-member c =
    let w = spread_last _ _ _ _ _ _ _ _ _ _ (rw c.in-Some.ensures.items at c.follow.invariant) in
    omega (arith, w.at.member.in_range, c.requires.count)

pub offer_from-requires-clause-place : goal.offer_from-requires-clause-place
offer_from-requires-clause-place c =
    let w = spread_last _ _ _ _ _ _ _ _ _ _ (rw c.in-Some.ensures.items at c.follow.invariant) in
    (c.requires.is_policy c.in-Some.member w.at.member).inside.in_range

pub offer_from-requires-clause-start : goal.offer_from-requires-clause-start
offer_from-requires-clause-start c =
    let w = spread_last _ _ _ _ _ _ _ _ _ _ (rw c.in-Some.ensures.items at c.follow.invariant) in
    rw c.deref.ensures.value w.starts

pub offer_from-requires-clause-within : goal.offer_from-requires-clause-within
offer_from-requires-clause-within c =
    let net = c.args.part.now.net.now in
    let vs = c.follow.values.items in
    let few = c.requires.kept.few_transitions in
    rw c.deref.ensures.value
    (held_at net c.args.part.now.parts.now c.args.part.now.number c.args.ratio.time c.args.ratio.tokens c.args.root
    (policy_of c.args.policy.now) vs c.follow.invariant.followed.valued (omega (arith, c.requires.count_parts))
    (from_of net (policy_of c.args.policy.now c.in-Some.member)))

pub index_mut-requires : goal.index_mut-requires
index_mut-requires c =
    let w = spread_last _ _ _ _ _ _ _ _ _ _ (rw c.in-Some.ensures.items at c.follow.invariant) in
    let ok = c.follow.values.ok in
    omega (arith, w.at.member.in_range, ok.0, c.follow.invariant.followed.valued.count)

pub add_followers-requires-clause-lower : goal.add_followers-requires-clause-lower
add_followers-requires-clause-lower c =
    let w = spread_last _ _ _ _ _ _ _ _ _ _ (rw c.in-Some.ensures.items at c.follow.invariant) in
    omega (arith, w.at.member.in_range, c.in_ok-followers.ensures.lower_count)

pub add_followers-requires-clause-highest : goal.add_followers-requires-clause-highest
add_followers-requires-clause-highest c =
    let w = spread_last _ _ _ _ _ _ _ _ _ _ (rw c.in-Some.ensures.items at c.follow.invariant) in
    omega (arith, w.at.member.in_range, c.in_ok-followers.ensures.highest_count)

pub follow-smaller : goal.follow-smaller
follow-smaller c =
    let w = spread_last _ _ _ _ _ _ _ _ _ _ (rw c.in-Some.ensures.items at c.follow.invariant) in
    let vs = c.follow.values.items in
    spread_less vs c.in-Some.member _ (omega (arith, w.at.member.in_range, c.follow.invariant.followed.valued.count)) (waits_follows _ _ _ _ _ vs c.in-Some.member w).without

pub follow-preserved : goal.follow-preserved
follow-preserved c =
    let net = c.args.part.now.net.now in
    let parts = c.args.part.now.parts.now in
    let part = c.args.part.now.number in
    let π = policy_of c.args.policy.now in
    let root = c.args.root in
    let a = c.args.ratio.time in
    let b = c.args.ratio.tokens in
    let r = c.requires in
    let t = c.in-Some.member in
    let vs = c.follow.values.items in
    let rest = c.pop.new.self.items in
    let h : Spreading net parts part π root a b vs (rest ++ t ∷ []) = rw c.in-Some.ensures.items at c.follow.invariant in
    let w : Waits net parts part π root vs t = spread_last net parts part π root a b vs rest t h in
    let fits : SFits w128 c.offer_from.result = search rules in
    let same = to_z-of_z w128 c.offer_from.result fits in
    let o : c.offer_from.result ≡ offer_of net a b (potentials vs) (π t) = rw c.deref.ensures.value at c.offer_from.ensures in
    let links = c.in_ok-followers.ensures in
    let followed : Followed net parts part a b root π (set vs t (Some c.offer_from.result)) =
    follow_step net parts part root c.args.ratio π vs t c.offer_from.result r.kept r.small r.is_policy h.followed (waits_follows net parts part π root vs t w) o in
    rw (same, c.in_ok-add_followers.ensures)
    (spread_more net parts part π root a b vs rest t c.offer_from.result c.in_ok-followers.followers links h followed)
