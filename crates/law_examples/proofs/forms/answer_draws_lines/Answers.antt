use Rattle.teg_model.proofs.OfNet.{net_ends}
use Rattle.law_examples.proofs.forms.answer_draws_lines.Goals as goal

pub returns : goal.returns
returns c = c.certificates_draw_lines.ensures c.args.net.now c.args.answer.now (net_ends c.args.net.now c.rules.ensures) c.requires.certificate
