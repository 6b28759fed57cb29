use Rattle.std.proofs.Common.{ℕ, ◌+◌, ◌<◌, ◌≡◌, length, sym, ap, arith, ◌∙◌}
use Rattle.std.proofs.lemmas.List.{length-set}
use Rattle.teg_net.specs.Nets.{IsNet}
use Rattle.date_rows.specs.DateTables.{firing_position}
use Rattle.teg_jit.specs.Plans.{latest_in}
use Rattle.teg_jit.specs.GoingBack.{date_there}
use Rattle.teg_jit.proofs.Passing.{next_none, next_some}
use Rattle.teg_jit.proofs.passes.pass_next.Goals as goal
use Rattle.teg_jit.proofs.passes.pass_next.Goals.{in-Some, in-None}

pub loop-index-preserved : goal.loop-index-preserved
loop-index-preserved c =
    let net = c.args.net.now in
    let n : ℕ = length net.transitions in
    let i = c.loop-index.index in
    let width = c.transitions-width.ensures.value in
    let ok : IsNet net = c.transitions-width.ensures.rules in
    let l : i < n = rw width at c.loop-index-test.true in
    let read : c.date_at.result ≡ date_there (latest_in n c.loop-index.dates i (c.args.number + 1)) = rw width at c.date_at.ensures.date in
    record {
      full = elim c.match-date_at.branch [
        | in-Some w ↦ rw (w.dates-is, w.lower.ensures) (length-set _ _ _ ∙ c.loop-index.invariant.full)
        | in-None w ↦ rw w.dates-is c.loop-index.invariant.full
      ];
      passed = λ due s order.
          elim c.match-date_at.branch [
            | in-Some w ↦
                let cell : w.cell_of.result ≡ firing_position n i c.args.number = rw width at w.cell_of.ensures.value in
                rw (w.dates-is, w.lower.ensures, cell)
                (next_some net due order c.args.last c.args.number i w.in-Some.date c.loop-index.dates ok
                (c.loop-index.invariant.passed due s order) l c.requires.one c.requires.within (sym w.in-Some.is ∙ read))
            | in-None w ↦
                rw w.dates-is (next_none net due order c.args.last c.args.number i c.loop-index.dates (c.loop-index.invariant.passed due s order) (sym w.in-None.is ∙ read))
          ];
    }

pub returns-clause-passed : goal.returns-clause-passed
returns-clause-passed c = λ due s order.
    let last : c.loop-index.index ≡ length c.transitions-width.result.now = omega (arith, c.loop-index-test.false, c.loop-index.auto.index-end) in
    rw (last ∙ ap length c.transitions-width.ensures.value) at (c.loop-index.invariant.passed due s order)
