use Rattle.std.proofs.Common.{◌++◌, ◌∷◌, codes}
use Rattle.teg_report.proofs.TextsWritten.{one_use_more}
use Rattle.teg_report.proofs.usage.push_uses.Goals as goal

pub loop-commands-preserved : goal.loop-commands-preserved
loop-commands-preserved c =
    one_use_more (λ k. k.0.now ++ 32 ∷ k.1.now) (codes "      ") _ _ _ c.loop-commands.commands.now _ c.in-len1-up.len_at_least c.in_ok-push_use.ensures c.loop-commands.invariant
