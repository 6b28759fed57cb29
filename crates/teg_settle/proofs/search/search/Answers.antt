use Rattle.std.proofs.Common.{arith}
use Rattle.teg_settle.proofs.search.search.Goals as goal

pub returns : goal.returns
returns c =
    let all = c.search-test.false in
    let h = c.search.invariant in
    record {
      ready = c.requires.asked.ready;
      rows = h.rows;
      shown = record {
        all = omega (arith, all);
        within = λ l. h.within (omega (arith, l, c.count-start.ensures.value));
        refuted = λ l. h.refuted (omega (arith, l, c.count-start.ensures.value));
      };
    }
