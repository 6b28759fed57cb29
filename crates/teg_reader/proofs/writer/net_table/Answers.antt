use Rattle.teg_reader.proofs.WrittenLemmas.{table_put}
use Rattle.teg_reader.proofs.writer.net_table.Goals as goal

pub returns-clause-table : goal.returns-clause-table
returns-clause-table c =
    rw (
      c.in_ok-table-4.ensures,
      c.in_ok-table-3.ensures,
      c.in_ok-table-2.ensures,
      c.in_ok-table.ensures,
      c.new_table-table.ensures,
      c.in_ok-inputs.ensures,
      c.in_ok-places.ensures,
      c.in_ok-transitions.ensures,
      c.transitions.ensures.value,
    )
    (table_put c.args.net.now)
