use Rattle.teg_reader.proofs.WrittenLemmas.{members_view-insert}
use Rattle.teg_reader.proofs.writer.with_value.Goals as goal

pub returns : goal.returns
returns c = rw (c.in_ok-insert.ensures.entries, members_view-insert c.args.table.entries c.in_ok-key.key c.args.value, c.in_ok-key.ensures.ok, c.text.ensures)
