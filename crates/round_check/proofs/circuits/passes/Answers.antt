use Rattle.std.proofs.Common.{ℕ, ◌<◌, ◌≤◌, ◌≡◌, get_or, refl, sym, ap, subst, ◌∙◌, arith, ⊎_elim}
use Rattle.std.proofs.lemmas.Bool.{cases_lt, iff_false, false≢true}
use Rattle.std.proofs.lemmas.List.{get_or_default}
use Rattle.teg_net.specs.declared.entries.PlaceId.{PlaceId}
use Rattle.teg_net.specs.Circuits.{no_place}
use Rattle.teg_net.specs.Parts.{to_of}
use Rattle.policy_rounds.specs.Policies.{first_id}
use Rattle.teg_parts.specs.Components.{IsMarked}
use Rattle.round_check.proofs.circuits.passes.Goals as goal

pub ends_marked-requires-clause-end : goal.ends_marked-requires-clause-end
ends_marked-requires-clause-end c =
    let id : PlaceId = get_or c.args.circuit.now c.loop-id.id-index first_id in
    let l = (c.rules.ensures.each_place id.index no_place (c.requires.in_range c.loop-id.id-index first_id c.loop-id-test.true)).to_in in
    omega (arith, l, c.requires.count)

pub loop-id-preserved : goal.loop-id-preserved
loop-id-preserved c = λ k d l m.
    let net = c.args.net.now in
    let circuit = c.args.circuit.now in
    let i = c.loop-id.id-index in
    let id : PlaceId = get_or circuit i first_id in
    ⊎_elim
    (λ (q : k < i). c.loop-id.invariant k d q m)
    (λ (q : i ≤ k).
    let is : i ≡ k = omega arith in
    let read : get_or circuit k d ≡ id = ap (λ (n : ℕ). get_or circuit n d) (sym is) ∙ get_or_default circuit i d first_id c.loop-id-test.true in
    iff_false c.ends_marked.ensures c.if-ends_marked.false (subst (λ p. IsMarked c.args.marked.now (to_of net p)) read m))
    (cases_lt k i)

pub returns-then-ends_marked : goal.returns-then-ends_marked
returns-then-ends_marked c =
    let circuit = c.args.circuit.now in
    let i = c.loop-id.id-index in
    let id : PlaceId = get_or circuit i first_id in
    (λ yes. (i, id, c.loop-id-test.true, get_or_default circuit i id first_id c.loop-id-test.true, c.ends_marked.ensures.0 c.if-ends_marked.true), λ w. refl)

pub returns : goal.returns
returns c = (
  λ y. absurd (false≢true y),
  λ w. absurd (c.loop-id.invariant w.0 w.1 (omega (arith, w.2, c.loop-id-test.false)) (subst (λ p. IsMarked c.args.marked.now (to_of c.args.net.now p)) (sym w.3) w.4)),
)
