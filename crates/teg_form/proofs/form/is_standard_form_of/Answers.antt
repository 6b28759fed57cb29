use Rattle.std.proofs.Common.{IsTrue, subst, sym}
use Rattle.teg_form.specs.StandardForms.{IsStandardFormOf}
use Rattle.teg_form.proofs.form.is_standard_form_of.Goals as goal

pub returns : goal.returns
returns c =
    let form = c.args.form.now in
    let net = c.args.net.now in
    let own = c.in_ok-own.ensures in
    let stands = λ (yes : IsTrue c.are_alike.result). subst (IsStandardFormOf net) (c.are_alike.ensures.0 yes) own.form in
    let told = λ (stands : IsStandardFormOf net form). c.are_alike.ensures.1 (sym (own.one form stands)) in
    (stands, told)
