use Rattle.std.proofs.Common.{ap, sym, ◌∙◌}
use Rattle.std.specs.Option.{option_copied}
use Rattle.teg_report.specs.Answering.{answer_in}
use Rattle.teg_report.proofs.ReadBack.{one_net}
use Rattle.teg_report.proofs.reports.report_both.Goals as goal

pub returns-clause-different : goal.returns-clause-different
returns-clause-different c first_plain second_plain same =
    let net = one_net (option_copied c.args.first_net) (option_copied c.args.second_net) c.requires.one_net in
    sym (c.in_ok-one.ensures.read_back first_plain net.0 net.1)
    ∙ (ap (answer_in net.0) same ∙ c.in_ok-two.ensures.read_back second_plain net.0 net.2)
