use Rattle.std.proofs.Common.{◌≡◌, ◌<◌, length, get_or, sym, subst, ◌∙◌, arith, rules}
use Rattle.std.proofs.lemmas.List.{get_or_default, length-map}
use Rattle.teg_net.specs.declared.answers.PartAnswer.TheVariants.{NoCircuit, Best}
use Rattle.policy_rounds.specs.LastRounds.{rounds_of_runs}
use Rattle.round_check.specs.ShownRounds.{EndsIn}
use Rattle.round_check.proofs.Telling.{best_is_some, go_on_none, go_on_some, none_then, run_of}
use Rattle.round_check.proofs.others.other_in.Goals as goal

pub returns-in-NoCircuit-clause-none : goal.returns-in-NoCircuit-clause-none
returns-in-NoCircuit-clause-none c =
    let answer = c.args.answer.now in
    go_on_none c.args.net.now answer.part_of.items answer.parts.items (rounds_of_runs c.args.runs.now) c.args.number c.args.told c.requires.number (search rules)

pub returns-in_ok-other-in-Best-clause-none : goal.returns-in_ok-other-in-Best-clause-none
returns-in_ok-other-in-Best-clause-none c =
    let answer = c.args.answer.now in
    let runs = c.args.runs.now in
    let own = get_or answer.parts.items c.args.number NoCircuit in
    let parts = answer.parts.items in
    let at : c.index.result.now ≡ get_or parts c.args.number c.index.result.now = search rules in
    let is : c.index.result.now ≡ Best c.in-Best.ratio c.in-Best.circuit c.in-Best.potentials = search rules in
    let best : own ≡ Best c.in-Best.ratio c.in-Best.circuit c.in-Best.potentials = sym (at ∙ get_or_default parts c.args.number c.index.result.now NoCircuit c.requires.number) ∙ is in
    let has = c.requires.told (best_is_some own c.in-Best.ratio c.in-Best.circuit c.in-Best.potentials best) in
    let within : c.args.told < length runs = omega (arith, has.0, length-map runs (λ run. run.items)) in
    let read = run_of runs c.args.told c.index-runs-told.result within c.index-runs-told.is in
    none_then c.in_ok-other-in-Best.other
    (λ ends. go_on_some c.args.net.now answer.part_of.items answer.parts.items (rounds_of_runs runs) c.args.number c.args.told c.requires.number has.0
    (subst (EndsIn c.args.net.now answer.part_of.items c.args.number own) (sym read) (rw c.deref.ensures.value at ends)))
    c.in_ok-other-in-Best.ensures.none
