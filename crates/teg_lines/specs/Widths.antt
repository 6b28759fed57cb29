-- Numbers of the widths that values of answers have.
use Rattle.std.specs.Prelude.{ℕ, ◌<◌, ◌^◌}

-- a number of 32 bits
abbrev pub IsWord32 : ℕ → Type 0
IsWord32 n = n < 2 ^ 32

-- a number of 64 bits
abbrev pub IsWord64 : ℕ → Type 0
IsWord64 n = n < 2 ^ 64
