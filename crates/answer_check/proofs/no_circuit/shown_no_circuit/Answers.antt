use Rattle.std.proofs.Common.{ℕ, ◌≡◌, ◌↔◌, true, is_some, rules, ◌∙◌, sym, Global, Vec}
use Rattle.teg_net.specs.GreatestRatios.{HasNoCircuit, IsAnyPlace}
use Rattle.answer_check.proofs.NoCircuits.{tells_none}
use Rattle.answer_check.proofs.no_circuit.shown_no_circuit.Goals as goal

pub returns : goal.returns
returns c =
    let net = c.args.net.now in
    let none : (is_some c.in_ok-found.found ≡ true) ↔ HasNoCircuit net IsAnyPlace =
    tells_none (λ (v : Vec ℕ Global). v.items) net c.in_ok-found.found c.rules.ensures c.in_ok-found.ensures.rise c.in_ok-found.ensures.circuit in (
      λ yes. record { none = none.0 (sym c.is_some.ensures ∙ yes); told = search rules },
      λ shown. c.is_some.ensures ∙ none.1 shown.none,
    )
