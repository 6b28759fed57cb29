use Rattle.std.proofs.Common.{Bor, List, ℕ, Bool, ◌≡◌, true, false, not, sym, refl, Some}
use Rattle.csv.specs.Records.{fields_of}
use Rattle.csv_records.proofs.Steps.{moved, ended}
use Rattle.csv_records.proofs.records.Records.read.Goals.{then-not-found, else-not-found}
use Rattle.csv_records.proofs.records.Records.read.Goals as goal

was_found : (found : Bool) → not found ≡ false → found ≡ true
was_found true h = refl
was_found false h = cc h

pub invariant_of-self : goal.invariant_of-self
invariant_of-self c = λ still. cc still

pub invariant_of-self-2 : goal.invariant_of-self-2
invariant_of-self-2 c = λ still.
    let read = c.read_byte_record.ensures in
    let before = c.self.invariant c.if-self.false in
    let found = was_found c.in-Ok.found still in
    (moved (λ (s : Bor (List ℕ)). Some s.now) c.self.inside.reader c.read_byte_record.new.self
    (fields_of c.read_byte_record.new.row) before (rw found at ((rw c.in-Ok.is at read.reads) before.plain before.ready))
    (rw c.in-Ok.is at read.goes) (rw c.in-Ok.is at read.flexible) (rw c.in-Ok.is at (read.ready before.plain))).reading

pub returns-clause-found : goal.returns-clause-found
returns-clause-found c = λ found. elim c.if-not-found.branch [
  | then-not-found w ↦ cc (w.if-not-found.true, found)
  | else-not-found w ↦ (
      let read = c.read_byte_record.ensures in
      let before = c.self.invariant c.if-self.false in
      let m = moved (λ (s : Bor (List ℕ)). Some s.now) c.self.inside.reader c.read_byte_record.new.self
      (fields_of c.read_byte_record.new.row) before (rw found at ((rw c.in-Ok.is at read.reads) before.plain before.ready))
      (rw c.in-Ok.is at read.goes) (rw c.in-Ok.is at read.flexible) (rw c.in-Ok.is at (read.ready before.plain)) in
      rw (sym c.self.view_is, c.if-self.false, found, w.row-is) m.more)
]

pub returns-clause-ended : goal.returns-clause-ended
returns-clause-ended c = λ none.
    let read = c.read_byte_record.ensures in
    let before = c.self.invariant c.if-self.false in
    let at_end = ended (λ (s : Bor (List ℕ)). Some s.now) c.self.inside.reader c.read_byte_record.new.self
    (fields_of c.read_byte_record.new.row) before (rw none at ((rw c.in-Ok.is at read.reads) before.plain before.ready)) in
    (rw (sym c.self.view_is, c.if-self.false) at_end, rw none refl)
