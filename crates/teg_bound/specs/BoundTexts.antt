-- The text of an answer, and that it tells the answer.
use Rattle.std.specs.Prelude.{ℕ, ◌<◌, ◌≡◌, ◌^◌, List, [], ◌∷◌, codes, ⊤}
use Rattle.std.specs.Fmt.{decimal}
use Rattle.teg_text.specs.Lines.{written}
use Rattle.teg_text.specs.WordsOfNames.{settled_words}
use Rattle.teg_bound.specs.declared.bound.BoundAnswer.{BoundAnswer}
use Rattle.teg_bound.specs.declared.bound.BoundAnswer.TheVariants.{Bound, HasInputs, NoPlace, NotStrong, ReadyDates}

-- why no bound is told
pub data Cause : Type 0 where
  InputsCause : Cause
  PlacesCause : Cause
  WaysCause : Cause
  DatesCause : Cause

-- what is told: a bound, and the number and the period of the shortest settled form; or a cause
pub data ToldBound : Type 0 where
  BoundTold : (number after period : ℕ) → ToldBound
  CauseTold : (cause : Cause) → ToldBound

-- the answer, with the number and the period of the shortest settled form
abbrev pub told_bound : BoundAnswer → ℕ → ℕ → ToldBound
told_bound (Bound number) after period = BoundTold number after period
told_bound HasInputs after period = CauseTold InputsCause
told_bound NoPlace after period = CauseTold PlacesCause
told_bound NotStrong after period = CauseTold WaysCause
told_bound ReadyDates after period = CauseTold DatesCause

-- the words of a cause
abbrev pub cause_words : Cause → List (List ℕ)
cause_words InputsCause = codes "has" ∷ codes "inputs" ∷ []
cause_words PlacesCause = codes "no" ∷ codes "place" ∷ []
cause_words WaysCause = codes "not" ∷ codes "strongly" ∷ codes "connected" ∷ []
cause_words DatesCause = codes "ready" ∷ codes "dates" ∷ []

-- the line of a bound
abbrev pub bound_line : ℕ → List (List ℕ)
bound_line number = codes "bound" ∷ decimal number ∷ []

-- the line that says why no bound is told
abbrev pub cause_line : Cause → List (List ℕ)
cause_line cause = codes "no" ∷ codes "bound:" ∷ cause_words cause

-- the lines of an answer
abbrev pub bound_lines : ToldBound → List (List (List ℕ))
bound_lines (BoundTold number after period) = bound_line number ∷ settled_words after period ∷ []
bound_lines (CauseTold cause) = cause_line cause ∷ []

-- the bound has 128 bits, and the number and the period have 64
abbrev pub AreNumbersIn : ToldBound → Type 0
AreNumbersIn (BoundTold number after period) = (number < 2 ^ 128) × (after < 2 ^ 64) × (period < 2 ^ 64)
AreNumbersIn (CauseTold cause) = ⊤

-- no bound is told
abbrev pub IsCause : BoundAnswer → Type 0
IsCause (Bound number) = ⊥
IsCause HasInputs = ⊤
IsCause NoPlace = ⊤
IsCause NotStrong = ⊤
IsCause ReadyDates = ⊤

-- two answers that have the same text are the same
abbrev pub TextsOfBoundsDiffer : Type 0
TextsOfBoundsDiffer = (p q : ToldBound) → AreNumbersIn p → AreNumbersIn q → written (bound_lines p) ≡ written (bound_lines q) → p ≡ q
