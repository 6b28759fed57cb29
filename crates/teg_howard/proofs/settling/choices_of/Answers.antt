use Rattle.std.specs.Prelude.{ℤ}
use Rattle.std.proofs.lemmas.Int.{to_z-of_z}
use mir.Val.{SFits, to_z, of_z}
use mir.Syntax.{w128}
use Rattle.std.proofs.Common.{◌++◌, ◌∷◌, [], ◌≡◌, ◌+◌, ap, subst, rules}
use Rattle.teg_net.specs.Parts.{IsMember}
use Rattle.teg_howard.specs.FoundCircuits.{value_or_zero, value_held}
use Rattle.policy_rounds.specs.PolicyLists.{policy_of}
use Rattle.teg_howard.proofs.Choices.{Listed, listed_more, listed_skip}
use Rattle.teg_howard.proofs.settling.choices_of.Goals.{then-parts-member+in_ok-push, else-parts-member}
use Rattle.teg_howard.proofs.settling.choices_of.Goals as goal

pub loop-member-preserved : goal.loop-member-preserved
loop-member-preserved c =
    let parts = c.args.part.now.parts.now in
    let i = c.loop-member.member in
    let h = c.loop-member.invariant in
    elim c.if-parts-member.branch [
      | then-parts-member+in_ok-push w ↦
          let member : IsMember parts c.args.part.now.number i = record { in_range = c.loop-member-test.true; here = w.if-parts-member.true } in
          let fits : SFits w128 w.unwrap.result = search rules in
          let same : to_z w128 (of_z w128 w.unwrap.result) ≡ w.unwrap.result = to_z-of_z w128 w.unwrap.result fits in
          let value : value_or_zero (value_held c.args.values.now i) ≡ w.unwrap.result = ap value_or_zero w.unwrap.ensures in
          rw (w.choices-is, w.in_ok-push.ensures.items, same)
          (subst (λ (v : ℤ). Listed parts c.args.part.now.number (policy_of c.args.policy.now) c.args.values.now
          (c.loop-member.choices.items ++ record { transition = record { index = i }; place = policy_of c.args.policy.now i; value = v } ∷ []) (i + 1)) value
          (listed_more parts c.args.part.now.number (policy_of c.args.policy.now) c.args.values.now c.loop-member.choices.items i h member))
      | else-parts-member w ↦
          rw w.choices-is
          (listed_skip parts c.args.part.now.number (policy_of c.args.policy.now) c.args.values.now c.loop-member.choices.items i h (λ m. w.if-parts-member.false m.here))
    ]
