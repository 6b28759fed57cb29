-- Counts over several calls: a count that rose or rested in a part of them.
use Rattle.std.proofs.Common.{ℕ, ◌≤◌, arith}
use Rattle.teg_outside.specs.Causes.{Rose, Rested}

-- no count both rose and rested
pub rose_not_rested : (before now : ℕ) → Rose before now → Rested before now → ⊥
rose_not_rested before now rose rested = omega arith

-- a count that did not fall first, and rose then, rose in all
pub rose_then : (a b c : ℕ) → a ≤ b → Rose b c → Rose a c
rose_then a b c below rose = grind arith

-- a count that rested in all rested then
pub rested_then : (a b c : ℕ) → a ≤ b → Rested a c → Rested b c
rested_then a b c below rested = omega arith
