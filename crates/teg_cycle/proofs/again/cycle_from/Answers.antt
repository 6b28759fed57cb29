use Rattle.std.proofs.Common.{◌≡◌, length, sym, subst, arith}
use Rattle.std.proofs.lemmas.List.{length_push}
use Rattle.std.proofs.lemmas.List.Elements.{All-push}
use Rattle.teg_net.specs.PartAnswers.{IsPartAnswer}
use Rattle.teg_net.specs.Certificates.{IsPartCertificate}
use Rattle.policy_rounds.specs.RunAnswers.{KeepsLimits}
use Rattle.teg_cycle.proofs.Telling.{each_push}
use Rattle.teg_cycle.proofs.again.cycle_from.Goals as goal

pub loop-part-preserved : goal.loop-part-preserved
loop-part-preserved c =
    let net = c.args.net.now in
    let part_of = c.args.parts.now.part_of in
    let h = c.loop-part.invariant in
    let old = c.loop-part.answers.items in
    let x = c.in_ok-answer.answer in
    let e = c.in_ok-answer.ensures in
    let count = h.count in
    let at : c.loop-part.part ≡ length old = sym count in
    let push = length_push old x in
    rw c.in_ok-keep.ensures
    (record {
      count = omega arith;
      are = each_push (IsPartAnswer net part_of) old x h.are (subst (λ k. IsPartAnswer net part_of k x) at e.answer);
      limits = All-push KeepsLimits old x h.limits e.limits;
      certificates = each_push (IsPartCertificate net part_of) old x h.certificates (subst (λ k. IsPartCertificate net part_of k x) at e.certificate);
    })

pub gathered-requires-clause-count : goal.gathered-requires-clause-count
gathered-requires-clause-count c = omega (arith, c.loop-part.invariant.count, c.loop-part-test.false, c.loop-part.auto.part-end, c.count-part-end.ensures.value)
