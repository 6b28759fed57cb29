use Rattle.std.proofs.Common.{sym, ◌∙◌}
use Rattle.teg_critical.proofs.WitnessLaws.{passes_none}
use Rattle.teg_critical.proofs.witnesses.slack_witness.Goals as goal

pub witness_at-requires-clause-best : goal.witness_at-requires-clause-best
witness_at-requires-clause-best c = sym c.best_ratio.ensures ∙ c.in-Some.is

pub numbers_from-requires-clause-none : goal.numbers_from-requires-clause-none
numbers_from-requires-clause-none c = λ ok. passes_none c.args.net.now ok c.args.answer.now c.requires.certificate (sym c.best_ratio.ensures ∙ c.in-None.is) c.args.place
