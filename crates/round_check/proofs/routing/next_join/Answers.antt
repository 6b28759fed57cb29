use Rattle.std.proofs.Common.{◌<◌, ◌≤◌, ◌≡◌, length, refl, subst, arith, ⊎_elim}
use Rattle.std.proofs.lemmas.Bool.{cases_lt, iff_false}
use Rattle.teg_net.specs.declared.entries.PlaceId.{PlaceId}
use Rattle.round_check.specs.Routes.{Leads}
use Rattle.round_check.proofs.Offering.{below_next}
use Rattle.round_check.proofs.routing.next_join.Goals as goal

pub loop-index-preserved : goal.loop-index-preserved
loop-index-preserved c = λ q e l.
    let part = c.args.part.now in
    let i = c.loop-index.index in
    let p : PlaceId = record { index = i } in
    ⊎_elim
    (λ (k : q.index < i). c.loop-index.invariant q e k)
    (λ (k : q ≡ p). iff_false c.leads_on.ensures c.if-leads_on.false (subst (Leads part.net.now part.parts.now part.number c.args.marked.now) k e))
    (below_next p q i refl l)

pub returns-then-leads_on-clause-some : goal.returns-then-leads_on-clause-some
returns-then-leads_on-clause-some c = record {
  leads = c.leads_on.ensures.0 c.if-leads_on.true;
  lowest = λ q e.
      ⊎_elim
      (λ (k : q.index < c.loop-index.index). absurd (c.loop-index.invariant q e k))
      (λ (k : c.loop-index.index ≤ q.index). k)
      (cases_lt q.index c.loop-index.index);
}

pub returns-clause-none : goal.returns-clause-none
returns-clause-none c = λ q e.
    let long = e.inside.in_range in
    let past : length c.args.part.now.net.now.places ≤ c.loop-index.index = rw c.places-index-end.ensures.value at c.loop-index-test.false in
    c.loop-index.invariant q e (omega arith)
