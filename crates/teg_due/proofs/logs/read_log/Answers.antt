use Rattle.std.proofs.Common.{◌≡◌, Ok}
use Rattle.std.proofs.lemmas.Result.{IfOk-weaker}
use Rattle.teg_due.specs.Logs.{log_of}
use Rattle.teg_due.specs.RowRules.{IsLogOf}
use Rattle.teg_due.proofs.DueRules.{log_rules}
use Rattle.teg_due.proofs.logs.read_log.Goals as goal

pub returns-clause-rules : goal.returns-clause-rules
returns-clause-rules c =
    let net = c.args.net.now in
    let bytes = c.args.bytes.now in
    IfOk-weaker c.read_rows.result (λ rows. log_of net bytes ≡ Ok rows.items) (λ rows. IsLogOf net rows.items) (λ rows e. log_rules net bytes rows.items e) c.read_rows.ensures.rows
