-- The bracket around one that closes is the last of the outer ones.
use Rattle.std.proofs.Common.{◌≡◌, refl, ap, ◌∙◌, List, [], ◌∷◌, ◌++◌, map, Some}
use Rattle.std.proofs.lemmas.List.{reverse-append, map-append}
use Rattle.teg_calc.specs.declared.brackets.Bracket.{Bracket}
use Rattle.teg_calc.specs.ExpressionTrees.{Tree}
use Rattle.teg_calc.specs.Readers.{Level, joined, closed, close_step, factored, level_of, levels_of}

levels_pop : (new : List Bracket) (b : Bracket) → levels_of (new ++ (b ∷ [])) ≡ level_of b ∷ levels_of new
levels_pop new b = rw (map-append level_of new (b ∷ []), reverse-append (map level_of new) (level_of b ∷ [])) refl

pub close_is : (old new : List Bracket) (b : Bracket) (i : Level) (term last factor : Tree) → old ≡ new ++ (b ∷ []) → last ≡ joined i.sum term
    → Some factor ≡ closed i.call i.first last → close_step (levels_of old) i term ≡ Some (factored (levels_of new) (level_of b) factor)
close_is old new b i term last factor e h k =
    let l : levels_of old ≡ level_of b ∷ levels_of new = ap levels_of e ∙ levels_pop new b in
    rw (← h, ← k, l) refl
