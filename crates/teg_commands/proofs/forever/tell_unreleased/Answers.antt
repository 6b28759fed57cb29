use Rattle.std.proofs.Common.{sym, subst}
use Rattle.teg_forever.specs.EndlessTexts.{IsRefusalIn}
use Rattle.teg_net.specs.Nets.{NetLists}
use Rattle.teg_commands.proofs.Released.{refusal_in}
use Rattle.teg_commands.proofs.forever.tell_unreleased.Goals as goal

pub forever_refusal_text-requires : goal.forever_refusal_text-requires
forever_refusal_text-requires c =
    subst (λ (net : NetLists). IsRefusalIn net c.args.refusal.now) (sym c.net.ensures.net)
    (refusal_in c.args.net.now c.args.rows.now c.requires.rows c.args.refusal.now c.in-Some.verdict c.in-Some.ensures.told c.requires.refused)
