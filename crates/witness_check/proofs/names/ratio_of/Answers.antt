use Rattle.std.proofs.Common.{◌≡◌, Some, ap, arith}
use Rattle.witness_check.proofs.NamedPlaces.{own_ratio}
use Rattle.witness_check.proofs.names.ratio_of.Goals as goal

pub returns-then-tokens-eq0 : goal.returns-then-tokens-eq0
returns-then-tokens-eq0 c = λ r terms time tokens. (let same : c.in-Some-Some.tokens ≡ r.tokens = cc in let some = terms.some in absurd (omega (arith, same, some, c.if-tokens-eq0.true)))

pub returns : goal.returns
returns c = λ r terms time tokens.
    let one : c.in-Some-Some.time ≡ r.time = cc in
    let two : c.in-Some-Some.tokens ≡ r.tokens = cc in
    ap Some (own_ratio r c.of.result terms (rw (one, two) at c.of.ensures.ratio))
