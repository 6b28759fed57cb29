-- Refusals of due files and logs, and recorded runs, are read back from their lines.
use Rattle.std.proofs.Common.{◌≡◌, ℕ, true, false, not, ◌==◌, ⊎_elim, Option, IfSome, List, [], ◌∷◌, ◌<◌, All, map, refl, ap, length}
use Rattle.std.proofs.lemmas.Bool.{cases_Bool}
use Rattle.std.specs.List.{list_all}
use Rattle.teg_outside.specs.Monitors.{IsOneLine}
use Rattle.teg_due.specs.declared.rows.DueRefusal.{DueRefusal}
use Rattle.teg_due.specs.declared.rows.DueRefusal.TheVariants.{BadRow as BadDueRow, UnknownTransition as UnknownDue, NotDue, RepeatedDue, OutOfRange as DueOutOfRange, OutOfMemory as NoDueRoom}
use Rattle.teg_due.specs.declared.rows.LogRefusal.{LogRefusal}
use Rattle.teg_due.specs.declared.rows.LogRefusal.TheVariants.{BadRow as BadLogRow, UnknownTransition as UnknownFiring, OutOfRange as LogOutOfRange, OutOfMemory as NoLogRoom}
use Rattle.teg_net.specs.declared.entries.PlaceId.{PlaceId}
use Rattle.teg_net.specs.Nets.{NetLists, IsNet}
use Rattle.teg_report.specs.declared.answer.Failure.{Failure}
use Rattle.teg_report.specs.declared.answer.Failure.TheVariants.{Illegal, BackInTime, BeforeRelease}
use Rattle.teg_report.specs.Answering.{IsNamedBy}
use Rattle.teg_report.specs.AnswerValues.{Due, Log, Replayed, Refused}
use Rattle.teg_report.specs.FileRows.{IsFailureIn, due_line, log_line, refused_lines, replayed_lines, IsDueKept, IsLogKept}
use Rattle.teg_lines.specs.Widths.{IsWord32, IsWord64}
use Rattle.teg_report.specs.Reports.{names_from}
use Rattle.teg_report.proofs.IsRead.{IsRead, with_net}
use Rattle.teg_text.proofs.NamesRead.{place_back, place_is_word}
use Rattle.teg_text.specs.Lines.{are_lines, is_line, phrase}
use Rattle.teg_text.specs.WordReading.{phrase_in}
use Rattle.teg_text.proofs.Back.{word32_back, word64_back}
use Rattle.teg_text.proofs.Phrases.{phrase_back, phrase_is_line}
use Rattle.teg_text.proofs.LineBlocks.{map_back, map_passes}
use Rattle.teg_text.proofs.Words.{decimal_is_word}

pub due_read : (names : NetLists) (refusal : DueRefusal) → IsDueKept refusal → IsRead names (due_line refusal ∷ []) (Due refusal)
due_read names (BadDueRow row) h = record { words = rw (decimal_is_word row) refl; back = rw (word32_back row h) refl }
due_read names (UnknownDue row) h = record { words = rw (decimal_is_word row) refl; back = rw (word32_back row h) refl }
due_read names (NotDue row) h = record { words = rw (decimal_is_word row) refl; back = rw (word32_back row h) refl }
due_read names (RepeatedDue row) h = record { words = rw (decimal_is_word row) refl; back = rw (word32_back row h) refl }
due_read names (DueOutOfRange row) h = record { words = rw (decimal_is_word row) refl; back = rw (word32_back row h) refl }
due_read names NoDueRoom h = absurd h

pub log_read : (names : NetLists) (refusal : LogRefusal) → IsLogKept refusal → IsRead names (log_line refusal ∷ []) (Log refusal)
log_read names (BadLogRow row) h = record { words = rw (decimal_is_word row) refl; back = rw (word32_back row h) refl }
log_read names (UnknownFiring row) h = record { words = rw (decimal_is_word row) refl; back = rw (word32_back row h) refl }
log_read names (LogOutOfRange row) h = record { words = rw (decimal_is_word row) refl; back = rw (word32_back row h) refl }
log_read names NoLogRoom h = absurd h

-- the lines of monitors

no_line_feed : (text : List ℕ) → IsOneLine text → list_all (λ b. not (b == 10)) text ≡ true
no_line_feed [] h = refl
no_line_feed (byte ∷ text) h =
    ⊎_elim
    (λ (e : (byte == 10) ≡ true). let no : true ≡ false = rw e at h in cc)
    (λ (e : (byte == 10) ≡ false). let rest : IsOneLine text = rw e at h in rw e (no_line_feed text rest))
    (cases_Bool (byte == 10))

lines_are_lines : (lines : List (List ℕ)) → All IsOneLine lines → are_lines (map phrase lines) ≡ true
lines_are_lines lines h = map_passes IsOneLine is_line phrase (λ t o. phrase_is_line t (no_line_feed t o)) lines h

lines_back : (lines : List (List ℕ)) → All IsOneLine lines → map phrase_in (map phrase lines) ≡ lines
lines_back lines h = map_back IsOneLine phrase phrase_in (λ t o. phrase_back t) lines h

pub replayed_read : (names : NetLists) (accepted : ℕ) (lines : List (List ℕ)) → IsWord64 accepted → All IsOneLine lines →
    IsRead names (replayed_lines accepted lines) (Replayed accepted lines)
replayed_read names accepted lines h one = record {
  words = rw (decimal_is_word accepted) (lines_are_lines lines one);
  back = rw (word64_back accepted h) (ap (Replayed accepted) (lines_back lines one));
}

illegal_read : (place : PlaceId) (row : ℕ) (lines : List (List ℕ)) → IsWord32 row → All IsOneLine lines → (net : NetLists) → IsNet net → place.index < length net.places →
    IsRead net (refused_lines net row (Illegal place) lines) (Refused row (Illegal place) lines)
illegal_read place row lines h one net rules l = record {
  words = rw (decimal_is_word row, place_is_word net place rules l) (lines_are_lines lines one);
  back = rw (word32_back row h, place_back net place rules l) (ap (Refused row (Illegal place)) (lines_back lines one));
}

pub refused_read : (net : Option NetLists) (names : NetLists) → IsNamedBy net names → IfSome net IsNet → (row : ℕ) (failure : Failure) (lines : List (List ℕ)) → IsWord32 row →
    IsFailureIn net failure → All IsOneLine lines → IsRead names (refused_lines (names_from net) row failure lines) (Refused row failure lines)
refused_read net names e rules row (Illegal place) lines h within one =
    with_net (λ n. place.index < length n.places) (λ names n. IsRead names (refused_lines n row (Illegal place) lines) (Refused row (Illegal place) lines)) net names e rules within
    (illegal_read place row lines h one)
refused_read net names e rules row BackInTime lines h within one = record {
  words = rw (decimal_is_word row) (lines_are_lines lines one);
  back = rw (word32_back row h) (ap (Refused row BackInTime) (lines_back lines one));
}
refused_read net names e rules row BeforeRelease lines h within one = record {
  words = rw (decimal_is_word row) (lines_are_lines lines one);
  back = rw (word32_back row h) (ap (Refused row BeforeRelease) (lines_back lines one));
}
