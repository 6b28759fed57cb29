use Rattle.std.proofs.Common.{arith}
use Rattle.std.proofs.lemmas.Fmt.{parse-decimal_wide}
use Rattle.witness_check.proofs.names.number_in.Goals as goal

pub returns-in-Ok : goal.returns-in-Ok
returns-in-Ok c = λ n few e. let read = parse-decimal_wide 64 n c.args.word.now c.parse.result few (omega (arith, few)) e c.parse.ensures.value.0 in (cc)

pub returns-in-Err : goal.returns-in-Err
returns-in-Err c = λ n few e. let read = parse-decimal_wide 64 n c.args.word.now c.parse.result few (omega (arith, few)) e c.parse.ensures.value.0 in (cc)
