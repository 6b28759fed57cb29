use Rattle.std.proofs.Common.{◌-◌, ◌≡◌, get_or, length, sym, subst, ◌∙◌, arith, inl, inr, rules}
use Rattle.std.proofs.lemmas.List.{get_or_default}
use Rattle.std.proofs.lemmas.Bool.{iff_false}
use Rattle.teg_net.specs.declared.answers.PartAnswer.TheVariants.{NoCircuit}
use Rattle.policy_rounds.specs.PolicyRounds.{IsLastRound, last_policy_round}
use Rattle.policy_rounds.specs.RunAnswers.{IsAnswerOf}
use Rattle.round_check.specs.Rounds.{Stands}
use Rattle.round_check.proofs.Stepping.{fewer_begun, run_begun}
use Rattle.round_check.proofs.others.other_round.Goals as goal

pub is_end-requires : goal.is_end-requires
is_end-requires c =
    let d = c.round_at.result.now in
    subst (Stands c.args.net.now c.deref.result.now c.args.number) (sym (c.round_at.ensures d))
    (c.in_ok-begun.ensures.begun.stand (length c.args.rounds.now - 1) d (omega (arith, c.requires.some, c.if-begun-rounds.false)))

pub returns-then-begun-rounds-clause-some : goal.returns-then-begun-rounds-clause-some
returns-then-begun-rounds-clause-some c = λ live. record {
  within = c.if-begun-rounds.true;
  before = rw c.deref.ensures.value at c.in_ok-begun.ensures.begun.begun;
  other = inl (rw c.deref.ensures.value at (c.in_ok-begun.ensures.all live c.if-begun-rounds.true));
}

pub returns-then-is_end-clause-none : goal.returns-then-is_end-clause-none
returns-then-is_end-clause-none c =
    let rounds = c.args.rounds.now in
    let end = c.in_ok-is_end.ensures.0 c.if-is_end.true in
    let parts = c.args.answer.now.parts.items in
    let at : c.index.result.now ≡ get_or parts c.args.number c.index.result.now = search rules in
    let read : c.index.result.now ≡ get_or parts c.args.number NoCircuit = at ∙ get_or_default parts c.args.number c.index.result.now NoCircuit c.requires.number in (
      run_begun c.args.net.now c.args.answer.now.part_of.items c.args.number rounds c.in_ok-begun.begun c.round_at.result.now c.requires.some
          (omega (arith, c.if-begun-rounds.false)) c.round_at.ensures (rw c.deref.ensures.value at c.in_ok-begun.ensures.begun.begun) (rw c.deref.ensures.value at end.1),
      λ d. subst (IsAnswerOf (last_policy_round rounds d)) read (subst (λ r. IsAnswerOf r c.index.result.now) (c.round_at.ensures d) end.0),
    )

pub returns-else-is_end-clause-some : goal.returns-else-is_end-clause-some
returns-else-is_end-clause-some c = λ live.
    let net = c.args.net.now in
    let part_of = c.args.answer.now.part_of.items in
    let rounds = c.args.rounds.now in
    let d = c.round_at.result.now in
    let parts = c.args.answer.now.parts.items in
    let at : c.index.result.now ≡ get_or parts c.args.number c.index.result.now = search rules in
    let read : c.index.result.now ≡ get_or parts c.args.number NoCircuit = at ∙ get_or_default parts c.args.number c.index.result.now NoCircuit c.requires.number in
    record {
      within = omega (arith, c.requires.some);
      before = (fewer_begun net part_of c.args.number rounds c.in_ok-begun.begun (length rounds - 1) (omega (arith, c.if-begun-rounds.false))
          (rw c.deref.ensures.value at c.in_ok-begun.ensures.begun)).begun;
      other = inr (
        omega (arith, c.requires.some),
        λ ends. iff_false c.in_ok-is_end.ensures c.if-is_end.false (
          subst (λ r. IsAnswerOf r c.index.result.now) (sym (c.round_at.ensures d)) (subst (IsAnswerOf (last_policy_round rounds d)) (sym read) (ends.1 d)),
          rw c.deref.ensures.value (subst (IsLastRound net part_of c.args.number) (sym (c.round_at.ensures d)) (ends.0.last d)),
        ),
      );
    }
