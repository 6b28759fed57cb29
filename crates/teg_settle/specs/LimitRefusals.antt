-- When the settling length exceeds a limit.
use Rattle.std.specs.Prelude.{ℕ, ◌≡◌, ⊤}
use Rattle.teg_settle.specs.declared.refusals.SettleRefusal.{SettleRefusal}
use Rattle.teg_settle.specs.declared.refusals.SettleRefusal.TheVariants.{TooLong, OutOfMemory}

-- a limit that is given, at most
abbrev pub greatest_limit : ℕ
greatest_limit = 200000

-- the refusal says that the length exceeds the limit only where it does, and names the limit; want of memory may come in any call
abbrev pub IsRightSettleRefusal : Type 0 → ℕ → SettleRefusal → Type 0
IsRightSettleRefusal exceeds limit (TooLong l) = (l ≡ limit) × exceeds
IsRightSettleRefusal exceeds limit OutOfMemory = ⊤
