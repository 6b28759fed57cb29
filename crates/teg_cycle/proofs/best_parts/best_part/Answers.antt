use Rattle.std.proofs.Common.{◌≡◌, ◌<◌, length, get_or, sym, ap, ◌∙◌}
use Rattle.std.proofs.lemmas.Bool.{iff_false}
use Rattle.std.proofs.lemmas.List.{get_or_read}
use Rattle.teg_net.specs.declared.answers.PartAnswer.TheVariants.{NoCircuit}
use Rattle.teg_net.specs.GreatestRatios.{ratio_in}
use Rattle.teg_cycle.proofs.FirstBest.{part_skip, part_keep, part_take}
use Rattle.teg_cycle.proofs.best_parts.best_part.Goals as goal
use Rattle.teg_cycle.proofs.best_parts.best_part.Goals.{in-Best+then-is_above, in-Best+else-is_above, in_default}
use Rattle.teg_cycle.proofs.BestBelow.{IsBestBelow}

pub loop-index-preserved : goal.loop-index-preserved
loop-index-preserved c =
    let answers = c.args.answers.now in
    let i = c.loop-index.index in
    let in' : i < length answers = c.loop-index-test.true in
    let h : IsBestBelow answers i c.loop-index.best = c.loop-index.invariant in
    let read : c.index-answers-index.result ≡ get_or answers i NoCircuit = get_or_read answers i c.index-answers-index.result in' c.index-answers-index.is NoCircuit in
    elim c.match-answer.branch [
      | in-Best+then-is_above w ↦
          let is = sym read ∙ w.in-Best.is in
          rw w.best-is (part_take answers i c.loop-index.best w.in-Best.ratio c.requires h (ap ratio_in is) (w.is_above.ensures.0 w.if-is_above.true))
      | in-Best+else-is_above w ↦
          let is = sym read ∙ w.in-Best.is in
          rw w.best-is (part_keep answers i c.loop-index.best w.in-Best.ratio h (ap ratio_in is) (iff_false w.is_above.ensures w.if-is_above.false))
      | in_default w ↦ rw w.best-is (part_skip answers i c.loop-index.best h (ap ratio_in (sym read ∙ w.in_default.is)))
    ]
