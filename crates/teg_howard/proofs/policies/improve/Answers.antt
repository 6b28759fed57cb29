use Rattle.std.proofs.Common.{ℕ, List, Bool, false, ◌≡◌, ◌+◌, length, get_or, ap, subst, refl, arith, rules}
use Rattle.std.specs.Prelude.{ℤ, ◌≤ℤ◌, ◌<ℤ◌}
use lib.ListN.{replicate}
use Rattle.std.proofs.lemmas.Int.{ints, to_z-of_z}
use Rattle.std.proofs.lemmas.List.{get_or_default}
use mir.Val.{SFits}
use mir.Syntax.{w128}
use Rattle.teg_net.specs.declared.entries.PlaceId.{PlaceId}
use Rattle.teg_net.specs.Circuits.{from_of}
use Rattle.teg_net.specs.Parts.{IsPlaceOfPart, to_of}
use Rattle.policy_rounds.specs.Policies.{first_id, offer_of}
use Rattle.teg_howard.specs.FoundCircuits.{IsBar, potentials}
use Rattle.policy_rounds.specs.PolicyLists.{policy_of}
use Rattle.teg_howard.proofs.InnerPlaces.{number_at, none_first, none_between, rises_at, past_all}
use Rattle.teg_howard.proofs.Improving.{Improving, improving_none, improving_far, improving_take, improving_keep, improving_all}
use Rattle.teg_howard.proofs.Exits.{no_mark}
use Rattle.teg_howard.proofs.policies.improve.Goals.{then-offered-bar_of, else-offered-bar_of}
use Rattle.teg_howard.proofs.policies.improve.Goals as goal

pub loop-id-init : goal.loop-id-init
loop-id-init c =
    let net = c.args.part.now.net.now in
    let parts = c.args.part.now.parts.now in
    let part = c.args.part.now.number in
    let n : ℕ = length parts in
    let cs = c.in_ok-changed.changed.items in
    let filled : cs ≡ replicate n false = c.in_ok-changed.ensures.items_if_clones_equal (search rules) in
    let ok_g = c.in_ok-greatest.greatest.ok in
    let ok_c = c.in_ok-changed.changed.ok in
    improving_none net parts part c.args.ratio.time c.args.ratio.tokens
    (potentials c.args.values.now) c.args.policy.now c.in_ok-greatest.greatest.items cs (number_at net parts part c.args.part.now.ids.now 0) c.requires.can.count
    (omega (arith, c.in_ok-greatest.ensures.len, ok_g.0)) (omega (arith, c.in_ok-changed.ensures.len, ok_c.0))
    (λ t. rw filled (no_mark n t)) (none_first net parts part c.args.part.now.ids.now c.requires.inner) c.requires.can.in_range

pub end_of-member-requires : goal.end_of-member-requires
end_of-member-requires c = (c.requires.inner.only c.loop-id.id-index first_id c.loop-id-test.true).in_range

pub offer_from-offered-requires-clause-start : goal.offer_from-offered-requires-clause-start
offer_from-offered-requires-clause-start c =
    let net = c.args.part.now.net.now in
    let p : PlaceId = get_or c.args.part.now.ids.now c.loop-id.id-index first_id in
    c.requires.can.has (from_of net p) (c.requires.inner.only c.loop-id.id-index first_id c.loop-id-test.true).from_member

pub loop-id-preserved : goal.loop-id-preserved
loop-id-preserved c =
    let net = c.args.part.now.net.now in
    let parts = c.args.part.now.parts.now in
    let part = c.args.part.now.number in
    let ids = c.args.part.now.ids.now in
    let k = c.loop-id.id-index in
    let l = c.loop-id-test.true in
    let a = c.args.ratio.time in
    let b = c.args.ratio.tokens in
    let v = potentials c.args.values.now in
    let first = policy_of c.args.policy.now in
    let gs = c.loop-id.greatest.items in
    let cs = c.loop-id.changed.items in
    let p : PlaceId = get_or ids k first_id in
    let inner = c.requires.inner in
    let inside : IsPlaceOfPart net parts part p = inner.only k first_id l in
    let here : number_at net parts part ids k ≡ p.index = ap (λ (x : PlaceId). let r : ℕ = x.index in r) (get_or_default ids k (record { index = length net.places }) first_id l) in
    let h : Improving net parts part a b v first c.loop-id.policy gs cs p.index = subst (Improving net parts part a b v first c.loop-id.policy gs cs) here c.loop-id.invariant in
    let ends : c.end_of-member.result ≡ to_of net p = c.end_of-member.ensures in
    let offered : c.offer_from-offered.result ≡ offer_of net a b v p = c.offer_from-offered.ensures in
    let bar : IsBar v gs cs (to_of net p) c.bar_of.result = rw (ends, c.deref.ensures.value, c.deref-in-loop-id.ensures.value) at c.bar_of.ensures in
    let far = λ (ps : List PlaceId) (gs' : List ℤ) (cs' : List Bool) (g : Improving net parts part a b v first ps gs' cs' (p.index + 1)).
    improving_far net parts part a b v first ps gs' cs' (p.index + 1) g (number_at net parts part ids (k + 1))
    (rises_at net parts part ids inner k p l here) (λ q e m. none_between net parts part ids inner k p q l here e m) in
    elim c.if-offered-bar_of.branch [
      | then-offered-bar_of w ↦
          let less : c.bar_of.result <ℤ c.offer_from-offered.result = omega (arith, ints, w.if-offered-bar_of.true) in
          let more : c.bar_of.result <ℤ offer_of net a b v p = rw (← offered) less in
          let fits : SFits w128 c.offer_from-offered.result = search rules in
          rw (w.policy-is, w.greatest-is, w.changed-is, ends, to_z-of_z w128 c.offer_from-offered.result fits, offered)
          (far _ _ _ (improving_take net parts part a b v first c.loop-id.policy gs cs p.index h p c.bar_of.result refl inside bar more))
      | else-offered-bar_of w ↦
          let less : c.offer_from-offered.result ≤ℤ c.bar_of.result = omega (arith, ints, w.if-offered-bar_of.false) in
          let low : offer_of net a b v p ≤ℤ c.bar_of.result = rw (← offered) less in
          rw (w.policy-is, w.greatest-is, w.changed-is) (far _ _ _ (improving_keep net parts part a b v first c.loop-id.policy gs cs p.index h p c.bar_of.result refl bar low))
    ]

pub returns : goal.returns
returns c =
    improving_all c.args.part.now.net.now c.args.part.now.parts.now c.args.part.now.number c.args.ratio
    c.args.values.now c.args.policy.now c.loop-id.policy c.loop-id.greatest.items c.loop-id.changed.items _
    (past_all c.args.part.now.net.now c.args.part.now.parts.now c.args.part.now.number c.args.part.now.ids.now c.requires.inner c.loop-id.id-index c.loop-id-test.false) c.loop-id.invariant
