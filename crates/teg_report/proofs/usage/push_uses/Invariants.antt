use Rattle.std.proofs.Common.{◌≡◌, ◌++◌, ◌∷◌, codes, length, map, string_bytes}
use Rattle.teg_report.specs.UsageLines.{usage_from}
use Rattle.teg_text.specs.Lines.{written}
use Rattle.teg_report.proofs.usage.push_uses.Given as goal

abbrev pub invariant-loop-commands : goal.invariant-loop-commands
invariant-loop-commands l =
    string_bytes l.text ++ written (usage_from (codes "      ") (map (λ c. c.0.now ++ 32 ∷ c.1.now) l.commands))
    ≡ string_bytes l.initial.text ++ written (usage_from (codes "      ") (map (λ c. c.0.now ++ 32 ∷ c.1.now) l.initial.commands))

abbrev pub decreases-loop-commands : goal.decreases-loop-commands
decreases-loop-commands l = length l.commands
