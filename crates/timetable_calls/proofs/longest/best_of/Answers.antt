use Rattle.std.proofs.Common.{ℕ, ◌<◌, List, length, Some, refl, sym, ap, subst, ◌∙◌, arith}
use Rattle.teg_net.specs.declared.answers.PartAnswer.{PartAnswer}
use Rattle.teg_net.specs.declared.answers.PartAnswer.TheVariants.{NoCircuit}
use Rattle.teg_net.specs.PartAnswers.{IsPartAnswer, IsBestOfPart}
use Rattle.teg_net.specs.GreatestRatios.{ratio_in, IsCycleTime}
use Rattle.teg_net.proofs.Reading.{read}
use Rattle.timetable_calls.proofs.Busiest.{best_is}
use Rattle.timetable_calls.proofs.longest.best_of.Goals as goal

pub returns : goal.returns
returns c =
    let net = c.args.net.now in
    let parts : List PartAnswer = c.args.answer.parts.items in
    let k : ℕ = c.in_ok-best.field-0 in
    let l : k < length parts = omega arith in
    let there = sym (read parts parts k c.swap_remove.result NoCircuit refl l c.swap_remove.ensures.value) ∙ c.in-Best.is in
    let own : IsBestOfPart net c.args.part_of.now k c.in-Best.ratio c.in-Best.circuit.places.items c.in-Best.potentials.items =
    subst (λ (a : PartAnswer). IsPartAnswer net c.args.part_of.now k a) there (c.requires.parts k l) in
    let cycle : IsCycleTime net parts (Some k) = rw c.in_ok-best.was at c.requires.best in
    best_is net c.args.part_of.now parts k (record { ratio = c.in-Best.ratio; circuit = c.in-Best.circuit }) cycle (ap ratio_in there) c.in-Best.potentials.items own
