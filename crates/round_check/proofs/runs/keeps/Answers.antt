use Rattle.std.proofs.Common.{sym, ◌∙◌}
use Rattle.std.proofs.lemmas.Bool.{iff_false, false≢true}
use Rattle.round_check.proofs.runs.keeps.Goals as goal

pub returns-then-not-has_circuit_of : goal.returns-then-not-has_circuit_of
returns-then-not-has_circuit_of c = (
  λ y. absurd (false≢true y),
  λ h. absurd (iff_false c.has_circuit_of.ensures c.if-not-has_circuit_of.true (h.circuit, h.ratio)),
)

pub returns : goal.returns
returns c =
    let same = c.has_circuit_of.ensures.0 c.if-not-has_circuit_of.false in (
      λ yes. record { circuit = same.0; ratio = same.1; places = λ t m. sym (c.in_ok-own.ensures.places t) ∙ c.has_places_of.ensures.0 yes t m },
      λ h. c.has_places_of.ensures.1 (λ t m. c.in_ok-own.ensures.places t ∙ h.places t m),
    )
