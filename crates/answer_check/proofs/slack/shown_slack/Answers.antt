use Rattle.std.proofs.Common.{rules, ◌≡◌, Some, sym, ◌∙◌, string_bytes}
use Rattle.teg_net.specs.Certificates.{IsCertificate}
use Rattle.teg_net.proofs.NetRules.{net_ends}
use Rattle.teg_certificates.specs.BestRatios.{best_ratio_of}
use Rattle.answer_check.proofs.Paces.{named_is_greatest}
use Rattle.answer_check.proofs.slack.shown_slack.Goals as goal

pub returns : goal.returns
returns c =
    let net = c.args.net.now in
    let answer = c.in_ok-answer.answer in
    let ratio = c.in-Some-best_ratio.ratio in
    let sure : IsCertificate net answer = search rules in
    let best : best_ratio_of answer ≡ Some ratio = search rules in
    let same : string_bytes c.in_ok-lines.lines ≡ c.args.text.now = search rules in
    record {
      live = c.in_ok-is_seen_live.ensures.0 (search rules);
      greatest = named_is_greatest net answer.parts.items answer.best ratio (c.certificates_tell.ensures.nets net answer (net_ends net c.rules.ensures) sure) best;
      terms = search rules;
      told = (c.as_slice-slacks.result.now, c.in_ok-are_seen.ensures (search rules) ratio best, sym same ∙ c.in_ok-lines.ensures);
    }
