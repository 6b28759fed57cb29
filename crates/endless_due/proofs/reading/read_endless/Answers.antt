use Rattle.std.proofs.Common.{◌≡◌, Ok}
use Rattle.std.proofs.lemmas.Result.{IfOk-weaker}
use Rattle.endless_due.specs.EndlessRows.{IsEndlessOf}
use Rattle.endless_due.specs.EndlessFiles.{endless_of}
use Rattle.endless_due.proofs.RowRules.{endless_rules}
use Rattle.endless_due.proofs.reading.read_endless.Goals as goal

pub returns-clause-rules : goal.returns-clause-rules
returns-clause-rules c =
    let net = c.args.net.now in
    let bytes = c.args.bytes.now in
    IfOk-weaker c.read_rows.result (λ rows. endless_of net bytes ≡ Ok rows.items) (λ rows. IsEndlessOf net rows.items) (λ rows e. endless_rules net bytes rows.items e) c.read_rows.ensures.rows
