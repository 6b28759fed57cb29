-- Reads one after another: what is told of them, and what became of the shelf.
use Rattle.std.proofs.Common.{suc, ◌≡◌, ℕ, ◌⊎◌, ⊎_elim, inl, inr, List, [], ◌∷◌, take, map, Result, Ok, Err, refl, sym, subst, arith}
use Rattle.teg_outside.specs.declared.shelf.ShelfFault.{ShelfFault}
use Rattle.teg_outside.specs.declared.shelf.ShelfFault.TheVariants.{Failed, TooLarge, OutOfMemory}
use Rattle.teg_outside.specs.Shelves.{ShelfState, Reads, ReadsGrow}
use Rattle.teg_outside.proofs.Growth.{reads_grow_none, reads_grow_then}
use Rattle.teg_report.specs.csv_records.Records.{most_file_bytes}
use Rattle.teg_report.specs.declared.answer.Which.{Which}
use Rattle.teg_report.specs.declared.answer.Which.TheVariants.{Net as NetFile, Due as DueFile, Log as LogFile, Timetable as TimetableFile}
use Rattle.teg_run.specs.Headline.{as_told, ReadsFirstOf}
use Rattle.teg_files.specs.Openings.{IsTaken}
use Rattle.teg_files.specs.Reads.{ReadsOnIfTaken, ReadsAll}

-- without replies nothing was read
pub none_left : (old new : ShelfState) (files : List (Which × List ℕ)) (replies : List (Result (List ℕ) ShelfFault)) → replies ≡ [] →
    ReadsAll old new files replies → new ≡ old
none_left old new files replies e h = subst (λ (rs : List (Result (List ℕ) ShelfFault)). ReadsAll old new files rs) e h

-- without names nothing is read
pub none_read : (old new : ShelfState) (replies : List (Result (List ℕ) ShelfFault)) → ReadsAll old new [] replies → new ≡ old
none_read old new [] h = h
none_read old new (reply ∷ replies) h = absurd h

-- a read is told, but for one that found no memory
read_grows : (old new : ShelfState) (name : List ℕ) (reply : Result (List ℕ) ShelfFault) → Reads old new name most_file_bytes reply →
    ReadsGrow old.reads new.reads ((name, most_file_bytes) ∷ []) ⊎ ((reply ≡ Err OutOfMemory) × ReadsGrow old.reads new.reads [])
read_grows old new name (Ok bytes) h = inl h.answer.4
read_grows old new name (Err TooLarge) h = inl h.answer.2
read_grows old new name (Err Failed) h = inl h.answer.1
read_grows old new name (Err OutOfMemory) h = ⊎_elim (λ (x : _). inl x) (λ (x : _). inr (refl, x)) h.answer

not_taken : (which : Which) → IsTaken which (Err OutOfMemory) → ⊥
not_taken NetFile h = h.1
not_taken DueFile h = h
not_taken LogFile h = h
not_taken TimetableFile h = h

-- after a read that found no memory nothing is read
lost_last : (old mid new : ShelfState) (which : Which) (files : List (Which × List ℕ)) (reply : Result (List ℕ) ShelfFault)
    (replies : List (Result (List ℕ) ShelfFault)) (named : List (Which × List ℕ)) →
    reply ≡ Err OutOfMemory → ReadsGrow old.reads mid.reads [] → ReadsOnIfTaken which reply replies → ReadsAll mid new files replies → ReadsFirstOf old new named
lost_last old mid new which files reply [] named lost grew goes rest =
    (0, omega arith, subst (λ (s : ShelfState). ReadsGrow old.reads s.reads []) (sym rest) grew)
lost_last old mid new which files reply (next ∷ replies) named lost grew goes rest =
    absurd (not_taken which (subst (λ (r : Result (List ℕ) ShelfFault). IsTaken which r) lost goes))

-- the told reads grew by a first part of the reads of these files
pub reads_first : (old new : ShelfState) (files : List (Which × List ℕ)) (replies : List (Result (List ℕ) ShelfFault)) →
    ReadsAll old new files replies → ReadsFirstOf old new files
reads_first old new files [] h = (0, omega arith, subst (λ (s : ShelfState). ReadsGrow old.reads s.reads []) (sym h) (reads_grow_none old.reads))
reads_first old new [] (reply ∷ replies) h = absurd h
reads_first old new (file ∷ files) (reply ∷ replies) h =
    elim (read_grows old h.0 file.1 reply h.1) [
      | inl grew ↦ (let rest = reads_first h.0 new files replies h.3 in
          (suc rest.0, omega (arith, rest.1), reads_grow_then old.reads h.0.reads new.reads (as_told file ∷ []) (take rest.0 (map as_told files)) grew rest.2))
      | inr lost ↦ lost_last old h.0 new file.0 files reply replies (file ∷ files) lost.0 lost.1 h.2 h.3
    ]
