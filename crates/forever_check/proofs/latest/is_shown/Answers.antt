use Rattle.std.proofs.Common.{◌≡◌, Option, None, length, subst}
use Rattle.teg_net.specs.declared.entries.Again.{Again}
use Rattle.forever_check.specs.ShownReleases.{EndsAtOnce}
use Rattle.forever_check.proofs.ReleaseWalks.{never_shown}
use Rattle.forever_check.proofs.latest.is_shown.Goals as goal

pub returns-in-None : goal.returns-in-None
returns-in-None c = λ yes.
    never_shown c.args.net.now c.args.rows.now c.args.list.now c.in-None.is
    (subst (λ (o : Option Again). EndsAtOnce c.args.list.now.dates o) c.in-None.is c.requires.ends)
