use Rattle.std.proofs.Common.{subst}
use Rattle.std.specs.Prelude.{Result, Ok, Err, IfOk}
use Rattle.run_laws.specs.declared.fired.Fired.{Fired}
use Rattle.run_laws.specs.Runs.{IsLegalAfter}
use Rattle.teg_replay.proofs.Failing.{stands_to_least}
use Rattle.teg_replay.proofs.game.Game.fire.Goals as goal

IfOk_then : {A E : Type 0} (r : Result A E) {P Q : A → Type 0} → IfOk r P → ((x : A) → P x → Q x) → IfOk r Q
IfOk_then (Ok x) p f = f x p
IfOk_then (Err e) p f = p

pub returns-in-Ok-clause-least : goal.returns-in-Ok-clause-least
returns-in-Ok-clause-least c =
    let net = c.args.net.now in
    let f : Fired = record { transition = c.args.transition; date = c.args.date } in
    let legal : IsLegalAfter net c.args.self.now.run f = subst (λ g. IsLegalAfter net g.run f) c.self.view_is c.in-Ok.ensures.legal in
    IfOk_then c.accept.result c.accept.ensures.told (λ firing told. stands_to_least net c.args.self.now.run f firing c.requires.stands.rules c.requires.stands.legal legal told)
