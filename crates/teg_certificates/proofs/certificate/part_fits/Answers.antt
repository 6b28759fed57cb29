use Rattle.teg_certificates.proofs.Fitting.{certifies_fit, fits_certificate}
use Rattle.teg_certificates.proofs.certificate.part_fits.Goals as goal

pub returns-in-NoCircuit : goal.returns-in-NoCircuit
returns-in-NoCircuit c = rw c.in-NoCircuit.is c.has_no_place.ensures

pub returns-in-Best : goal.returns-in-Best
returns-in-Best c =
    let net = c.args.part.now.net.now in
    let part_of = c.args.part.now.part_of.now in
    let part = c.args.part.now.number in
    let ratio = c.in-Best.ratio in
    let circuit = c.in-Best.circuit.places.items in
    let told = c.in-Best.potentials.items in
    let h = rw (c.deref.ensures.value, c.deref-in-Best.ensures.value) at c.best_fits.ensures.fits in
    rw c.in-Best.is (
      λ t. certifies_fit net part_of part ratio circuit told c.best_fits.ensures.terms (h.0 t),
      λ k. h.1 (fits_certificate net part_of part ratio circuit told k),
    )
