use Rattle.teg_certificates.proofs.Fitting.{certifies_lists, fits_lists}
use Rattle.teg_certificates.proofs.certificate.check_cycle.Goals as goal

pub returns : goal.returns
returns c =
    let net = c.args.net.now in
    let answer = c.args.answer.now in
    let h = rw (c.deref.ensures.value, c.deref-2.ensures.value) at c.lists_fit.ensures in
    (λ t. certifies_lists net answer (h.0 t), λ k. h.1 (fits_lists net answer k))
