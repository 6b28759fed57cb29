use Rattle.std.proofs.Common.{sym, ◌∙◌}
use Rattle.std.proofs.lemmas.Bool.{false≢true}
use Rattle.teg_reader.proofs.DocumentLemmas.{document-no_text, document-read, document-not_read}
use Rattle.teg_reader.proofs.reader.read_net.Goals as goal

pub returns-in_default : goal.returns-in_default
returns-in_default c = λ free. document-no_text c.args.bytes.now c.in_default.ensures.cases.0

pub returns-in-Ok-table_from_str : goal.returns-in-Ok-table_from_str
returns-in-Ok-table_from_str c =
    rw (document-read c.args.bytes.now c.in-Ok.text.now _ c.in-Ok.ensures.cases.0 c.in-Ok.ensures.cases.1 c.in-Ok-table_from_str.ensures.ok) c.read_table.ensures

pub returns-else-is_memory : goal.returns-else-is_memory
returns-else-is_memory c = λ free.
    document-not_read c.args.bytes.now c.in-Ok.text.now c.in-Ok.ensures.cases.0 c.in-Ok.ensures.cases.1
    (c.in-Err.ensures.refused (λ memory. false≢true (sym c.if-is_memory.false ∙ c.is_memory.ensures.1 memory)))
