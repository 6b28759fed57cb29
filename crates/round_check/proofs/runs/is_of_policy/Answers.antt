use Rattle.std.proofs.Common.{refl, ℕ, ◌<◌, ◌≤◌, ◌≡◌, get_or, sym, ap, ◌∙◌, arith, ⊎_elim}
use Rattle.std.proofs.lemmas.Bool.{cases_lt, iff_false, false≢true}
use Rattle.std.proofs.lemmas.List.{get_or_default}
use Rattle.teg_net.specs.declared.entries.PlaceId.{PlaceId}
use Rattle.teg_net.specs.Circuits.{no_place}
use Rattle.teg_net.specs.Parts.{to_of}
use Rattle.policy_rounds.specs.Policies.{first_id}
use Rattle.policy_rounds.specs.PolicyLists.{policy_of}
use Rattle.round_check.proofs.runs.is_of_policy.Goals as goal

pub has_place-requires : goal.has_place-requires
has_place-requires c =
    let id : PlaceId = get_or c.args.circuit.now c.loop-id.id-index first_id in
    let l = (c.rules.ensures.each_place id.index no_place (c.requires.range c.loop-id.id-index first_id c.loop-id-test.true)).to_in in
    rw c.end_of.ensures (omega (arith, l, c.requires.count, c.args.part.now.count))

pub loop-id-preserved : goal.loop-id-preserved
loop-id-preserved c =
    let net = c.args.part.now.net.now in
    let circuit = c.args.circuit.now in
    let i = c.loop-id.id-index in
    let id : PlaceId = get_or circuit i first_id in
    let own : policy_of c.args.policy.now (to_of net id) ≡ id = rw c.end_of.ensures at (c.has_place.ensures.0 c.if-not-has_place.false) in
    λ k d l.
    ⊎_elim
    (λ (q : k < i). c.loop-id.invariant k d q)
    (λ (q : i ≤ k).
    let is : i ≡ k = omega arith in
    let read : get_or circuit k d ≡ id = ap (λ (n : ℕ). get_or circuit n d) (sym is) ∙ get_or_default circuit i d first_id c.loop-id-test.true in
    rw read own)
    (cases_lt k i)

pub returns-then-not-has_place : goal.returns-then-not-has_place
returns-then-not-has_place c = (
  λ y. absurd (false≢true y),
  λ all. absurd (iff_false c.has_place.ensures c.if-not-has_place.true (rw c.end_of.ensures (all c.loop-id.id-index first_id c.loop-id-test.true))),
)

pub returns : goal.returns
returns c = (λ yes k d l. c.loop-id.invariant k d (omega (arith, l, c.loop-id-test.false)), λ all. refl)
