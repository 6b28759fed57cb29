use Rattle.std.proofs.Common.{rules}
use Rattle.teg_net.specs.Certificates.{IsCertificate}
use Rattle.teg_net.proofs.NetRules.{net_ends}
use Rattle.pace_check.proofs.Paces.{best_is_greatest}
use Rattle.pace_check.proofs.pace.shown_times.Goals as goal

pub returns : goal.returns
returns c =
    let net = c.args.net.now in
    let answer = c.in-Some.answer in
    let ratio = c.in-Some-best_ratio.ratio in
    let sure : IsCertificate net answer = search rules in
    record {
      live = c.in_ok-is_seen_live.ensures.0 (search rules);
      greatest = (ratio, search rules, best_is_greatest net answer.parts.items answer.best ratio (c.certificates_tell.ensures.nets net answer (net_ends net c.rules.ensures) sure) (search rules));
      times = record { certificate = sure; strong = search rules; parts = search rules; told = search rules };
    }
