use Rattle.std.proofs.Common.{◌≡◌, Ok}
use Rattle.std.proofs.lemmas.Result.{IfOk-weaker}
use Rattle.timetable_files.specs.Entries.{entries_of}
use Rattle.timetable_files.specs.EntryRules.{AreEntriesOf}
use Rattle.timetable_files.proofs.EntryRules.{entry_rules}
use Rattle.timetable_files.proofs.reading.read_entries.Goals as goal

pub returns-clause-rules : goal.returns-clause-rules
returns-clause-rules c =
    let net = c.args.net.now in
    let bytes = c.args.bytes.now in
    IfOk-weaker c.read_rows.result (λ rows. entries_of net bytes ≡ Ok rows.items) (λ rows. AreEntriesOf net rows.items) (λ rows e. entry_rules net bytes rows.items e) c.read_rows.ensures.rows
