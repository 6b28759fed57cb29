use Rattle.std.proofs.Common.{◌<◌, ◌≤◌, ◌≡◌, length, refl, subst, arith, ⊎_elim}
use Rattle.std.proofs.lemmas.Bool.{cases_lt, iff_false}
use Rattle.teg_net.specs.declared.entries.PlaceId.{PlaceId}
use Rattle.policy_rounds.specs.Policies.{Enters}
use Rattle.round_check.proofs.Offering.{below_next}
use Rattle.round_check.proofs.policies.lowest_into.Goals as goal

pub loop-index-preserved : goal.loop-index-preserved
loop-index-preserved c = λ q e l.
    let part = c.args.part.now in
    let i = c.loop-index.index in
    let p : PlaceId = record { index = i } in
    ⊎_elim
    (λ (k : q.index < i). c.loop-index.invariant q e k)
    (λ (k : q ≡ p). iff_false c.enters.ensures c.if-enters.false (subst (Enters part.net.now part.parts.now part.number c.args.transition) k e))
    (below_next p q i refl l)

pub returns-then-enters-clause-some : goal.returns-then-enters-clause-some
returns-then-enters-clause-some c = record {
  enters = c.enters.ensures.0 c.if-enters.true;
  lowest = λ q e.
      ⊎_elim
      (λ (k : q.index < c.loop-index.index). absurd (c.loop-index.invariant q e k))
      (λ (k : c.loop-index.index ≤ q.index). k)
      (cases_lt q.index c.loop-index.index);
}

pub returns-clause-none : goal.returns-clause-none
returns-clause-none c = λ q e.
    let long = e.inside.in_range in
    let past : length c.args.part.now.net.now.places ≤ c.loop-index.index = rw c.places-index-end.ensures.value at c.loop-index-test.false in
    c.loop-index.invariant q e (omega arith)
