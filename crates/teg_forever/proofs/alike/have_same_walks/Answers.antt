use Rattle.std.proofs.Common.{◌≡◌, ◌∙◌, sym, ap, to_z}
use Rattle.std.specs.Int.{w128}
use Rattle.std.proofs.lemmas.Int.{to_z-of_z}
use Rattle.teg_forever.proofs.alike.have_same_walks.Goals as goal

pub returns : goal.returns
returns c = λ yes.
    let step : c.step.result ≡ c.step-2.result =
    sym (to_z-of_z w128 c.step.result (record { sfits = c.step.type_inv })) ∙ (ap (to_z w128) c.if-step.false ∙ to_z-of_z w128 c.step-2.result (record { sfits = c.step-2.type_inv })) in
    record {
      row = c.has_same_row.ensures yes;
      step = sym c.step.ensures.value ∙ (step ∙ c.step-2.ensures.value);
    }
