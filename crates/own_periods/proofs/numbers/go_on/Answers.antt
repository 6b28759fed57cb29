use Rattle.own_periods.proofs.numbers.go_on.Goals as goal

pub returns : goal.returns
returns c = λ yes. record {
  at_pace = c.have_one_pace.ensures c.if-not-have_one_pace.false;
  slack = c.all_keep_slack.ensures c.if-not-all_keep_slack.false;
  met = c.in_ok-met.ensures yes;
}
