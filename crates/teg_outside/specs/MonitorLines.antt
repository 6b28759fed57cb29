-- What the monitors of this crate print.
use Rattle.std.specs.Prelude.{ℕ, ◌-◌, max, List, [], ◌∷◌, ◌++◌, map, codes}
use Rattle.std.specs.Fmt.{decimal}
use Rattle.teg_outside.specs.declared.monitor.Firing.{Firing}

-- the greatest of these numbers, 0 of none
abbrev pub greatest_in : List ℕ → ℕ
greatest_in [] = 0
greatest_in (number ∷ rest) = max number (greatest_in rest)

-- the greatest number of tokens after one of these firings
abbrev pub greatest_tokens : List Firing → ℕ
greatest_tokens firings = greatest_in (map (λ f. f.tokens) firings)

-- how long after its earliest date the firing came, 0 where it came before
abbrev pub lateness : Firing → ℕ
lateness firing = firing.date - firing.earliest

-- the greatest lateness of these firings
abbrev pub greatest_lateness : List Firing → ℕ
greatest_lateness firings = greatest_in (map lateness firings)

-- the line of a count of firings
abbrev pub firings_line : ℕ → List ℕ
firings_line count = codes "firings " ++ decimal count

-- the line of a greatest number of tokens
abbrev pub high_water_line : ℕ → List ℕ
high_water_line tokens = codes "high water " ++ decimal tokens

-- the line of a greatest lateness
abbrev pub lateness_line : ℕ → List ℕ
lateness_line late = codes "greatest lateness " ++ decimal late
