use Rattle.std.proofs.Common.{◌∙◌, ap, refl}
use Rattle.run_laws.specs.Runs.{next_number}
use Rattle.teg_replay.proofs.Playing.{game_more}
use Rattle.teg_replay.proofs.game.Game.accept.Goals as goal

pub returns-clause-told : goal.returns-clause-told
returns-clause-told c = record {
  transition = refl;
  number = c.next_number-number.ensures.number ∙ ap (λ g. next_number g.run c.args.fired.transition.index) c.self.view_is;
  date = refl;
  earliest = c.requires.earliest;
  tokens = c.tokens_with-tokens.ensures;
}

pub returns-clause-stands : goal.returns-clause-stands
returns-clause-stands c =
    let done = game_more c.args.net.now c.args.self.now c.args.fired c.tokens_with-tokens.result c.requires.stands c.requires.legal c.tokens_with-tokens.ensures in
    rw c.in_ok-push.ensures (rw (← c.self.view_is) at done)
