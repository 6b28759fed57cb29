use Rattle.std.proofs.Common.{◌≡◌, ◌∷◌, [], ℕ, List, Some, length, sym, arith}
use Rattle.csv.specs.Records.{field_at, fields_of}
use Rattle.csv.proofs.RecordFacts.{field-there}
use Rattle.csv_records.proofs.fields.three_fields.Goals as goal

are_three : (fields : List (List ℕ)) (a b c : List ℕ) → length fields ≡ 3 → Some a ≡ field_at fields 0 → Some b ≡ field_at fields 1 → Some c ≡ field_at fields 2 → fields ≡ a ∷ b ∷ c ∷ []
unfolding field_at
are_three [] a b c n ea eb ec = absurd (omega arith)
are_three (x ∷ []) a b c n ea eb ec = absurd (omega arith)
are_three (x ∷ y ∷ []) a b c n ea eb ec = absurd (omega arith)
are_three (x ∷ y ∷ z ∷ []) a b c n ea eb ec = cc (ea, eb, ec)
are_three (x ∷ y ∷ z ∷ w ∷ rest) a b c n ea eb ec = absurd (omega arith)

pub returns-in_err-first-clause-none : goal.returns-in_err-first-clause-none
returns-in_err-first-clause-none c = absurd (field-there (fields_of c.args.row.now) 0 (omega arith) (sym c.in_err-first.ensures.value))

pub returns-in_err-second-clause-none : goal.returns-in_err-second-clause-none
returns-in_err-second-clause-none c = absurd (field-there (fields_of c.args.row.now) 1 (omega arith) (sym c.in_err-second.ensures.value))

pub returns-in_err-third-clause-none : goal.returns-in_err-third-clause-none
returns-in_err-third-clause-none c = absurd (field-there (fields_of c.args.row.now) 2 (omega arith) (sym c.in_err-third.ensures.value))

pub returns-clause-some : goal.returns-clause-some
returns-clause-some c =
    are_three (fields_of c.args.row.now) c.in_ok-first.first.now c.in_ok-second.second.now c.in_ok-third.third.now
    (omega arith) c.in_ok-first.ensures.value c.in_ok-second.ensures.value c.in_ok-third.ensures.value
