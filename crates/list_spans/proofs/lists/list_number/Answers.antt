use Rattle.std.proofs.Common.{◌∙◌, eqb, sym, rules, tests}
use Rattle.std.proofs.lemmas.Iterator.{YieldsList-from_slice}
use Rattle.std.proofs.lemmas.Iterator.Search.{position_from_yields_List}
use Rattle.list_spans.proofs.Spanning.{place_found, place_none}
use Rattle.list_spans.proofs.lists.list_number.Goals as goal

pub returns-in-Some : goal.returns-in-Some
returns-in-Some c =
    let found = position_from_yields_List (λ l. eqb l.transition.index c.args.transition.index) _ _ c.position.result
    c.position.ensures.ran (YieldsList-from_slice _ c.iter.ensures.rest) (λ x b q k. search (rules, tests)) in
    rw c.inputs-lists.ensures.value at (place_found (λ l. eqb l.transition.index c.args.transition.index) c.inputs-lists.result.now c.in-Some.number (sym c.in-Some.is ∙ found))

pub returns-in-None : goal.returns-in-None
returns-in-None c =
    let found = position_from_yields_List (λ l. eqb l.transition.index c.args.transition.index) _ _ c.position.result
    c.position.ensures.ran (YieldsList-from_slice _ c.iter.ensures.rest) (λ x b q k. search (rules, tests)) in
    rw c.inputs-lists.ensures.value (place_none (λ l. eqb l.transition.index c.args.transition.index) c.args.net.now.inputs (rw c.inputs-lists.ensures.value at (sym c.in-None.is ∙ found)))
