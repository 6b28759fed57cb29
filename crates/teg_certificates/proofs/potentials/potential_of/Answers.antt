use Rattle.std.proofs.Common.{get_or, sym, ◌∙◌, arith}
use Rattle.teg_certificates.proofs.Deciding.{none_told, potential_found, potential_missing, read_within}
use Rattle.teg_certificates.proofs.potentials.potential_of.Goals as goal

pub returns-then-told-transition-clause-value : goal.returns-then-told-transition-clause-value
returns-then-told-transition-clause-value c =
    let vs = c.args.potentials.now in
    let i = c.loop-told.told-index in
    read_within (get_or vs i none_told).value (c.requires i none_told c.loop-told-test.true)
    ∙ sym (potential_found vs c.args.transition i none_told c.loop-told-test.true (λ k l. c.loop-told.invariant k none_told l) c.if-told-transition.true)

pub returns-clause-value : goal.returns-clause-value
returns-clause-value c = sym (potential_missing c.args.potentials.now c.args.transition none_told (λ k l. c.loop-told.invariant k none_told (omega (arith, c.loop-told-test.false, l))))
