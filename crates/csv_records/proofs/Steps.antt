-- What a read does to the records that a reader has left.
use Rattle.std.proofs.Common.{List, ℕ, ◌≡◌, ◌∙◌, ◌+◌, ◌∷◌, [], true, false, inl, Some, Option, length}
use Rattle.csv.specs.Reading.{ReadRecord, ReadsNext, default_config, has_failed, is_flexible, pending_of, records_from, source_of, reader_state, took_first}
use Rattle.csv.specs.declared.reader.Reader.{Reader}
use Rattle.csv.specs.declared.parser.State.{State}
use Rattle.csv.proofs.ReadFacts.{rows-end}
use Rattle.csv_records.specs.Records.{IsBetween, IsReading, records_left_of}
use Rattle.csv_records.proofs.Unread.{next_was_read, read_gives, unread_more, unread_none}

-- a reader with one more record read
pub record Moved {R : Type 0} (rest : R → Option (List ℕ)) (a b : Reader R) (fields : List (List ℕ)) : Type 0 where
  pub reading : IsReading rest b
  pub more : records_left_of (reader_state a) (source_of rest a) ≡ fields ∷ records_left_of (reader_state b) (source_of rest b)

-- what a read that found a record shows of the state and the bytes after it
record Shown (s t : State) (xs : List ℕ) (fields : List (List ℕ)) (known : Option (List ℕ)) : Type 0 where
  left : List ℕ
  known_is : known ≡ Some left
  between : IsBetween t
  more : records_from default_config (length xs + 1) s xs ≡ fields ∷ records_from default_config (length left + 1) t left

shown : (s t : State) (xs : List ℕ) (fields : List (List ℕ)) (known : Option (List ℕ)) → IsBetween s → ReadsNext default_config s (Some xs) known true fields t → Shown s t xs fields known
shown s t xs fields known between r =
    let (left, at_left, next) = read_gives default_config s t xs fields known r in
    record {
      left = left;
      known_is = at_left;
      between = (next_was_read default_config s [] [] xs (fields, t, left) next).between;
      more = unread_more default_config s xs (fields, t, left) between next;
    }

pub moved : {R : Type 0} (rest : R → Option (List ℕ)) (a b : Reader R) (fields : List (List ℕ)) → IsReading rest a → ReadRecord rest a b true fields
    → has_failed b ≡ has_failed a → is_flexible b ≡ is_flexible a → took_first b ≡ true → Moved rest a b fields
moved rest a b fields reading r goes flexible first =
    let (xs, source) = reading.told in
    let s = shown (reader_state a) (reader_state b) xs fields (pending_of (rest b.rdr) b) reading.between (rw (reading.config, source) at r.0) in
    let told : source_of rest b ≡ Some s.left = rw r.1 s.known_is in
    record {
      reading = record {
        going = goes ∙ reading.going;
        plain = r.3 ∙ reading.plain;
        ready = inl first;
        any_length = flexible ∙ reading.any_length;
        config = r.2 ∙ reading.config;
        between = s.between;
        told = (s.left, told);
      };
      more = rw (source, told) s.more;
    }

-- a read that found none was at the end
pub ended : {R : Type 0} (rest : R → Option (List ℕ)) (a b : Reader R) (fields : List (List ℕ)) → IsReading rest a
    → ReadRecord rest a b false fields → records_left_of (reader_state a) (source_of rest a) ≡ []
ended rest a b fields reading r =
    let (xs, source) = reading.told in
    rw source (unread_none default_config (reader_state a) xs (rows-end rest a b fields default_config xs reading.config source r))
