use Rattle.std.proofs.Common.{◌≡◌, rules, refl}
use Rattle.std.proofs.lemmas.List.Elements.{same_from_all_zip}
use Rattle.teg_howard.proofs.iteration.answer_of.Goals as goal

pub returns : goal.returns
returns c =
    let same : c.in_ok-places.places.items ≡ c.args.round.now.circuit.places.items =
    same_from_all_zip _ c.args.round.now.circuit.places.items c.in_ok-places.places.items c.in_ok-places.ensures.cases.0 (λ x y r. search rules) in
    (refl, same, rw c.deref.ensures.value at c.in_ok-potentials.ensures)
