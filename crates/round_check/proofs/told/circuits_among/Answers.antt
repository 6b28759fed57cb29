use Rattle.std.proofs.Common.{◌∷◌, ◌≡◌, [], get_or, ap, ◌∙◌, arith}
use Rattle.std.proofs.lemmas.List.{get_or_default}
use Rattle.teg_net.specs.declared.answers.PartAnswer.TheVariants.{NoCircuit}
use Rattle.teg_lines.specs.CycleMeanings.{part_lists}
use Rattle.teg_lines.specs.RoundLines.{circuits_in}
use Rattle.round_check.specs.ToldRounds.{runs_of_part}
use Rattle.round_check.proofs.Telling.{count_more}
use Rattle.round_check.proofs.told.circuits_among.Goals as goal

pub loop-number-preserved : goal.loop-number-preserved
loop-number-preserved c =
    let parts = c.args.parts.now in
    let i = c.loop-number.number in
    let part = c.index-parts-number.result in
    let own : part ≡ get_or parts i NoCircuit = c.index-parts-number.is ∙ get_or_default parts i part NoCircuit c.loop-number-test.true in
    let here : c.circuits_of-count.result ≡ runs_of_part parts i = c.circuits_of-count.ensures.number ∙ ap (λ p. circuits_in (part_lists p ∷ [])) own in
    let more = count_more parts i c.loop-number-test.true in
    (omega (arith, c.loop-number.invariant.0, more, here), omega (arith, c.loop-number.invariant.1, c.circuits_of-count.ensures.small))
