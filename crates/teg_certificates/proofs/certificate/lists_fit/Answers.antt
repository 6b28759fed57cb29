use Rattle.std.proofs.Common.{◌≡◌, true, false}
use Rattle.std.proofs.lemmas.Bool.{false≢true, iff_false}
use Rattle.teg_certificates.proofs.certificate.lists_fit.Goals as goal

pub returns-then-not-numbers_fit : goal.returns-then-not-numbers_fit
returns-then-not-numbers_fit c = (
  λ (e : false ≡ true). absurd (false≢true e),
  λ h. absurd (iff_false c.numbers_fit.ensures c.if-not-numbers_fit.true h.numbers),
)

pub returns-then-not-parts_fit : goal.returns-then-not-parts_fit
returns-then-not-parts_fit c = (
  λ (e : false ≡ true). absurd (false≢true e),
  λ h. absurd (iff_false c.parts_fit.ensures c.if-not-parts_fit.true h.parts),
)

pub parts_fit-requires : goal.parts_fit-requires
parts_fit-requires c = (c.numbers_fit.ensures.0 c.if-not-numbers_fit.false).long

pub returns : goal.returns
returns c = (
  λ t. record {
    numbers = c.numbers_fit.ensures.0 c.if-not-numbers_fit.false;
    parts = c.parts_fit.ensures.0 c.if-not-parts_fit.false;
    best = c.is_first_best.ensures.0 t;
  },
  λ h. c.is_first_best.ensures.1 h.best,
)
