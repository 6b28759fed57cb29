use Rattle.std.proofs.Common.{◌<◌, ◌≤◌, ◌≡◌, All, IsTrue, sym, ◌∙◌, arith, ⊎_elim}
use Rattle.std.proofs.lemmas.Bool.{cases_lt}
use Rattle.std.proofs.lemmas.List.{get_or_read}
use Rattle.settled_forms.specs.Spread.{is_marked}
use Rattle.walk_times.specs.Reached.{begins_marked}
use Rattle.walk_times.proofs.reached.are_closed.Goals as goal

pub loop-place-preserved : goal.loop-place-preserved
loop-place-preserved c = λ i d l m.
    let ps = c.places-place-items.result.now in
    let n = c.loop-place.place-index in
    ⊎_elim
    (λ (q : i < n). c.loop-place.invariant i d l q)
    (λ (q : n ≤ i).
    let is : i ≡ n = omega arith in
    let here : IsTrue (begins_marked c.args.marks.now c.place-item.result) → IsTrue (is_marked c.args.marks.now c.place-item.result.to.index) = c.leads_on.ensures c.if-not-leads_on.false in
    let read = get_or_read ps n c.place-item.result (rw is at l) c.place-item.is d in
    rw (is, ← read) here)
    (cases_lt i n)

pub returns : goal.returns
returns c = λ yes.
    let all : All (λ p. IsTrue (begins_marked c.args.marks.now p) → IsTrue (is_marked c.args.marks.now p.to.index)) c.places-place-items.result.now =
    λ i d l. c.loop-place.invariant i d l (omega (arith, c.loop-place-test.false, l)) in
    record {
      begins = sym c.is_marked.ensures ∙ yes;
      leads_on = rw c.places-place-items.ensures.value at all;
    }
