-- The lines of an answer that claim something, each behind what is found of it.
use Rattle.std.specs.Prelude.{ℕ, Bool, true, ◌==◌, ◌&&◌, ◌||◌, ◌∷◌, ◌++◌, [], List, Option, Some, bytes_eq, codes, flat_map, length, nat_le, not, slice_index_or, if◌then◌else◌}
use Rattle.std.specs.List.{range_with_len}
use Rattle.audit_calls.specs.AnswerWords.{word_in}
use Rattle.audit_calls.specs.AuditStatuses.{finding_word}
use Rattle.audit_calls.specs.declared.finding.Finding.{Finding}
use Rattle.audit_calls.specs.declared.finding.Finding.TheVariants.{WrongLine}
use Rattle.audit_calls.specs.declared.kinds.Kind.{Kind}
use Rattle.audit_calls.specs.declared.kinds.Kind.TheVariants.{OfSearch, Plan, Releases, Kept, Recovered}
use Rattle.audit_calls.specs.declared.kinds.Searched.TheVariants.{Bound}

-- whether the line of a table tells no date
abbrev pub is_free_line : List ℕ → Bool
is_free_line line = bytes_eq (word_in line 3) (codes "free")

-- whether the line of this number, counted from 0, claims something: of a table each that tells a date, of delays that are kept that
-- line and the circuit, of delays that die out the line that says so, of releases without end and of a bound each line, of each other
-- answer the first
abbrev pub is_claim : Option Kind → ℕ → List ℕ → Bool
is_claim (Some Plan) i line = not (is_free_line line)
is_claim (Some Releases) i line = true
is_claim (Some Kept) i line = nat_le 1 i && nat_le i 2
is_claim (Some Recovered) i line = i == 1
is_claim (Some (OfSearch Bound)) i line = true
is_claim kind i line = i == 0

-- whether something is told of the line of this number: where one line is wrong, of the first and of that line, else of each that claims
abbrev pub is_told : Option Kind → Finding → ℕ → List ℕ → Bool
is_told kind (WrongLine wrong) i line = (i == 0) || (i == wrong)
is_told kind finding i line = is_claim kind i line

-- the line behind what is found of it
abbrev pub claim_line : List ℕ → List ℕ → List ℕ
claim_line word line = word ++ 32 ∷ line ++ 10 ∷ []

-- what is told of the line of this number
abbrev pub claim_at : Option Kind → Finding → ℕ → List ℕ → List ℕ
claim_at kind finding i line = if is_told kind finding i line then claim_line (finding_word finding) line else []

-- what is told of the lines of an answer
abbrev pub claims_text : Option Kind → Finding → List (List ℕ) → List ℕ
claims_text kind finding lines = flat_map (λ i. claim_at kind finding i (slice_index_or lines i [])) (range_with_len 0 (length lines))
