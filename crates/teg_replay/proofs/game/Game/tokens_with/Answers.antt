use Rattle.std.proofs.Common.{arith}
use Rattle.teg_replay.proofs.Playing.{step_of}
use Rattle.teg_replay.proofs.game.Game.tokens_with.Goals as goal

pub overflow_add-result : goal.overflow_add-result
overflow_add-result c =
    let s = step_of c.requires.stands c.requires.few c.requires.legal c.self.view_is c.from-brought.ensures c.leaving.ensures c.entering.ensures in
    omega (arith, s.few, s.few_brought)

pub overflow_sub-result : goal.overflow_sub-result
overflow_sub-result c =
    let s = step_of c.requires.stands c.requires.few c.requires.legal c.self.view_is c.from-brought.ensures c.leaving.ensures c.entering.ensures in
    omega (arith, s.balance)

pub returns : goal.returns
returns c =
    let s = step_of c.requires.stands c.requires.few c.requires.legal c.self.view_is c.from-brought.ensures c.leaving.ensures c.entering.ensures in
    omega (arith, s.balance)
