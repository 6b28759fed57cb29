use Rattle.std.proofs.Common.{ap, sym, ◌∙◌}
use Rattle.teg_report.specs.Answering.{answer_in}
use Rattle.teg_report.proofs.ReadBack.{one_net, told_read}
use Rattle.teg_report.proofs.laws.answers_are_read.Goals as goal

pub returns-clause-read : goal.returns-clause-read
returns-clause-read c net answer told names named = told_read net names named answer told

pub returns-clause-differ : goal.returns-clause-differ
returns-clause-differ c one two same a b h k e =
    let net = one_net one two same in
    sym (told_read one net.0 net.1 a h) ∙ (ap (answer_in net.0) e ∙ told_read two net.0 net.2 b k)
