use Rattle.std.proofs.Common.{◌≡◌, ◌∷◌, [], ℕ, List, Some, length, sym, arith}
use Rattle.csv.specs.Records.{field_at, fields_of}
use Rattle.csv.proofs.RecordFacts.{field-there}
use Rattle.csv_records.proofs.fields.two_fields.Goals as goal

are_two : (fields : List (List ℕ)) (a b : List ℕ) → length fields ≡ 2 → Some a ≡ field_at fields 0 → Some b ≡ field_at fields 1 → fields ≡ a ∷ b ∷ []
unfolding field_at
are_two [] a b n ea eb = absurd (omega arith)
are_two (x ∷ []) a b n ea eb = absurd (omega arith)
are_two (x ∷ y ∷ []) a b n ea eb = cc (ea, eb)
are_two (x ∷ y ∷ z ∷ rest) a b n ea eb = absurd (omega arith)

pub returns-in_err-first-clause-none : goal.returns-in_err-first-clause-none
returns-in_err-first-clause-none c = absurd (field-there (fields_of c.args.row.now) 0 (omega arith) (sym c.in_err-first.ensures.value))

pub returns-in_err-second-clause-none : goal.returns-in_err-second-clause-none
returns-in_err-second-clause-none c = absurd (field-there (fields_of c.args.row.now) 1 (omega arith) (sym c.in_err-second.ensures.value))

pub returns-clause-some : goal.returns-clause-some
returns-clause-some c =
    are_two (fields_of c.args.row.now) c.in_ok-first.first.now c.in_ok-second.second.now (omega arith) c.in_ok-first.ensures.value c.in_ok-second.ensures.value
