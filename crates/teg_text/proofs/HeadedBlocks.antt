-- Lines of which the first alone is a head.
use Rattle.std.specs.Prelude.{Bool, false, not, ◌&&◌, List, [], ◌∷◌}
use Rattle.std.specs.List.{list_all}

-- a head, and behind it none
abbrev pub is_block : {L : Type 0} → (L → Bool) → List L → Bool
is_block is_head [] = false
is_block is_head (line ∷ lines) = is_head line && list_all (λ l. not (is_head l)) lines
