use Rattle.std.proofs.Common.{◌≡◌, ◌<◌, true, false, length, get_or, refl, arith, below_more}
use Rattle.std.proofs.lemmas.Bool.{false≢true, iff_false}
use Rattle.std.proofs.lemmas.List.{get_or_read}
use Rattle.teg_net.specs.declared.answers.PartAnswer.TheVariants.{NoCircuit}
use Rattle.teg_net.specs.Certificates.{IsPartCertificate}
use Rattle.teg_certificates.proofs.certificate.parts_fit.Goals as goal

pub loop-number-preserved : goal.loop-number-preserved
loop-number-preserved c =
    let answers = c.args.answers.now in
    let i = c.loop-number.number in
    let within : i < length answers = c.loop-number-test.true in
    let read : c.index-answers-number.result ≡ get_or answers i NoCircuit = get_or_read answers i c.index-answers-number.result within c.index-answers-number.is NoCircuit in
    let here : IsPartCertificate c.args.net.now c.args.part_of.now i (get_or answers i NoCircuit) = rw read at (c.part_fits.ensures.0 c.if-not-part_fits.false) in
    below_more _ _ c.loop-number.invariant here

pub returns-then-not-part_fits : goal.returns-then-not-part_fits
returns-then-not-part_fits c =
    let answers = c.args.answers.now in
    let i = c.loop-number.number in
    let within : i < length answers = c.loop-number-test.true in
    let read : c.index-answers-number.result ≡ get_or answers i NoCircuit = get_or_read answers i c.index-answers-number.result within c.index-answers-number.is NoCircuit in
    (λ (e : false ≡ true). absurd (false≢true e), λ h. absurd (iff_false c.part_fits.ensures c.if-not-part_fits.true (rw read (h i within))))

pub returns : goal.returns
returns c = (λ t k l. c.loop-number.invariant k (omega arith), λ h. refl)
