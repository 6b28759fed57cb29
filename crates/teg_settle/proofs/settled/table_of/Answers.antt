use Rattle.std.proofs.Common.{sym, ◌∙◌, arith}
use Rattle.teg_settle.proofs.Copying.{shown_none}
use Rattle.teg_settle.proofs.settled.table_of.Goals as goal

pub loop-shown-init : goal.loop-shown-init
loop-shown-init c =
    let wide = c.requires.width in
    let none = rw c.transitions.ensures.value at c.in_ok-table.ensures in
    record {
      few = omega arith;
      table = record {
        width = none.width ∙ sym wide;
        shown = λ t l. shown_none c.args.rows.now t _ (none.none t (omega (arith, l, wide)));
      };
    }
