-- Dioids whose products commute (chapter 4).
use Rattle.std.specs.Prelude.{◌≡◌}
use Rattle.dioid.specs.declared.algebra.Dioid.{Ghosts as DioidOf}

-- the order of two elements does not matter in their product
abbrev pub ProductsCommute : {M : Type 0} → DioidOf M → Type 0
ProductsCommute {M} d = (a b : M) → d.is_element a → d.is_element b → d.product a b ≡ d.product b a
