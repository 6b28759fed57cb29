-- What a call of a semiring answers.
use Rattle.std.specs.Prelude.{◌≡◌, Bool, IsTrue, Result, Ok, Err}
use Rattle.dioid.specs.declared.algebra.Refused.{Refused}
use Rattle.dioid.specs.declared.algebra.Refused.TheVariants.{Range, OutOfMemory}

-- the value exactly where the operands fit, Range exactly where not, and want of memory only where memory is taken
abbrev pub Answers : {M : Type 0} → Bool → Type 0 → M → Result M Refused → Type 0
Answers takes_memory fits value (Ok r) = (r ≡ value) × fits
Answers takes_memory fits value (Err Range) = ¬ fits
Answers takes_memory fits value (Err OutOfMemory) = IsTrue takes_memory
