use Rattle.std.proofs.Common.{sym, ◌∙◌}
use Rattle.teg_critical.proofs.EachPlace.{each_way, no_ratio, unnamed}
use Rattle.teg_critical.proofs.each_place.critical.Goals as goal

pub slacks_at-requires-clause-best : goal.slacks_at-requires-clause-best
slacks_at-requires-clause-best c = sym c.best_ratio.ensures ∙ c.in-Some.is

pub returns-in_ok-slacks_at-in-Some-clause-slacks : goal.returns-in_ok-slacks_at-in-Some-clause-slacks
returns-in_ok-slacks_at-in-Some-clause-slacks c = λ r top.
    rw c.new.ensures
    (each_way c.args.net.now c.in-Some.best c.in_ok-slacks_at-in-Some.ensures.greatest c.in_ok-slacks_at-in-Some.field-0.items c.in_ok-slacks_at-in-Some.ensures.slacks r top)

pub returns-in_ok-no_slacks-in-None-clause-slacks : goal.returns-in_ok-no_slacks-in-None-clause-slacks
returns-in_ok-no_slacks-in-None-clause-slacks c = λ r top.
    no_ratio c.args.net.now r top (unnamed c.args.net.now c.in_ok-no_slacks-in-None.ensures.rules c.args.answer.now c.requires.certificate (sym c.best_ratio.ensures ∙ c.in-None.is))
