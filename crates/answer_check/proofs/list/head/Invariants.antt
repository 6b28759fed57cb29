use Rattle.std.proofs.Common.{◌≡◌, ◌++◌, ◌∷◌, take, string_bytes}
use Rattle.std.specs.List.{flat_map}
use Rattle.answer_check.proofs.list.head.Given as goal

abbrev pub invariant-loop-transition : goal.invariant-loop-transition
invariant-loop-transition l =
    string_bytes l.text ≡ string_bytes l.initial.text ++ flat_map (λ t. 32 ∷ t.name) (take l.transition-index l.net.transitions)
