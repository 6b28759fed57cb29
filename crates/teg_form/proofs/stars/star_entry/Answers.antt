use Rattle.std.proofs.Common.{sym, ◌∙◌}
use Rattle.teg_form.proofs.StarEntries.{star_entry_is, some_held}
use Rattle.teg_form.proofs.stars.star_entry.Goals as goal

pub returns-in-At-clause-entry : goal.returns-in-At-clause-entry
returns-in-At-clause-entry c =
    star_entry_is c.args.net.now c.args.times.now c.args.to c.args.from c.in-At.time c.requires.times c.requires.to c.requires.from c.if-to-from.false (sym c.entry.ensures.value ∙ c.in-At.is)

pub returns-in-Early-clause-none : goal.returns-in-Early-clause-none
returns-in-Early-clause-none c = λ time n p.
    some_held c.args.net.now c.args.times.now c.args.from c.args.to time c.requires.times c.requires.from p (sym c.entry.ensures.value ∙ c.in-Early.is)
