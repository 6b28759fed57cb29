-- A list of dates that is written piece by piece, as its rows are made.
use Rattle.std.proofs.Common.{◌≡◌, ℕ, ◌+◌, ◌≤◌, List, [], ◌++◌, length, map, take, drop, Result, Ok, Err, Some, inl, inr, refl, sym, ap, subst, ◌∙◌, append_assoc, arith, length-append}
use Rattle.std.specs.List.{flat_map, range_with_len}
use Rattle.std.proofs.Math.Seq.{take-append-add}
use Rattle.std.proofs.lemmas.Grind.{flat_map-append}
use Rattle.std.proofs.lemmas.List.{append-nil, take-append-drop, take-append-le}
use Rattle.std.proofs.lemmas.List.Folds.{flat_map-map}
use Rattle.std.proofs.lemmas.List.FromFn.{take-map-range_with_len}
use Rattle.teg_report.specs.dioid.declared.dates.Date.{Date}
use Rattle.teg_outcome.specs.declared.outcome.Verdict.TheVariants.{Done as VerdictDone}
use Rattle.teg_files.specs.List.{SaysList}
use Rattle.teg_files.specs.List.{list_text}
use Rattle.date_rows.specs.Passes.{IsRowOf}
use Rattle.teg_report.specs.teg_model.Datings.{IsLeastDating}
use Rattle.teg_net.specs.Nets.{NetLists}
use Rattle.teg_outside.specs.Causes.{Rose}
use Rattle.teg_outside.specs.declared.sink.SinkFault.{SinkFault}
use Rattle.teg_outside.specs.declared.sink.SinkFault.TheVariants.{Failed}
use Rattle.teg_outside.specs.Sinks.{SinkState, BytesGrow}
use Rattle.teg_outside.proofs.Growth.{bytes_grow_none, bytes_grow_then}
use Rattle.teg_report.specs.DateLists.{head_text, number_line, row_text}
use Rattle.teg_report.proofs.ListRows.{row_is_line, list_of_lines}
use Rattle.teg_files.specs.declared.status.Status.TheVariants.{Done, WriteFault}
use Rattle.teg_files.specs.WrittenLists.{WritesFull, lines_text}
use Rattle.teg_files.specs.Finishing.{WritesOutcome}
use Rattle.teg_files.specs.Writing.{WritesText}
use Rattle.teg_report.specs.teg_text.Lines.{line_then}
use Rattle.teg_report.proofs.teg_text_proofs.Listing.{more_after}

-- ---- texts one after another

-- nothing was written
writes_none : (a : SinkState) → WritesText a a [] (Ok tt)
writes_none a = (refl, bytes_grow_none a.bytes)

-- a text was written, and then a first part of the next one before a fault
writes_cut : (a b c : SinkState) (first next rest : List ℕ) (e : SinkFault) → WritesText a b first (Ok tt) → WritesText b c next (Err e) →
    WritesText a c (first ++ (next ++ rest)) (Err e)
writes_cut a b c first next rest Failed h k =
    let n : ℕ = k.1.0 in
    let le : n ≤ length next = k.1.1 in
    let is : take (length first + n) (first ++ (next ++ rest)) ≡ first ++ take n next =
    take-append-add first (next ++ rest) n ∙ ap (λ (l : List ℕ). first ++ l) (take-append-le n next rest le) in (
      subst (λ (z : ℕ). Rose z c.faults) h.0 k.0,
      (
        length first + n,
        omega (arith, length-append first (next ++ rest), length-append next rest),
        subst (λ (l : List ℕ). BytesGrow a.bytes c.bytes l) (sym is) (bytes_grow_then a.bytes b.bytes c.bytes first (take n next) h.1 k.1.2),
      ),
    )

-- a text was written, and then the next one, or a first part of it before a fault
writes_then : (a b c : SinkState) (first next : List ℕ) (r : Result (Unit {0}) SinkFault) → WritesText a b first (Ok tt) → WritesText b c next r → WritesText a c (first ++ next) r
writes_then a b c first next (Ok done) h k = (k.0 ∙ h.0, bytes_grow_then a.bytes b.bytes c.bytes first next h.1 k.1)
writes_then a b c first next (Err e) h k =
    subst (λ (l : List ℕ). WritesText a c (first ++ l) (Err e)) (append-nil next) (writes_cut a b c first next [] e h k)

-- the fault that is handed on
pub cut_up : (a c : SinkState) (text : List ℕ) (r : Result (Unit {0}) SinkFault) (y e : SinkFault) → r ≡ Err y → WritesText a c text (Err e) → WritesText a c text r
cut_up a c text r Failed Failed is h = subst (λ (x : Result (Unit {0}) SinkFault). WritesText a c text x) (sym is) h

-- ---- what is gathered

cut_of : (a b : SinkState) (block : List ℕ) (filled : ℕ) (e : SinkFault) → WritesFull a b block filled (Err e) → WritesText a b (take filled block) (Err e)
cut_of a b block filled Failed h = h

-- ---- the lines of the numbers so far

abbrev line_of : NetLists → (ℕ → ℕ → Date) → ℕ → List ℕ
line_of net x k = line_then (number_line (length net.transitions) x k) []

lines_more : (net : NetLists) (x : ℕ → ℕ → Date) (n : ℕ) (text text' : List ℕ) → text' ≡ text ++ line_of net x (n + 1) → text ≡ lines_text net x n → text' ≡ lines_text net x (n + 1)
lines_more net x n text text' pushed h = more_after (line_of net x) [] text text' (line_of net x (n + 1)) 1 n (n + 1) (omega arith) pushed refl h

-- the lines of fewer numbers are a first part
lines_begin : (net : NetLists) (x : ℕ → ℕ → Date) (m n : ℕ) → m ≤ n → (rest : List ℕ) × (lines_text net x n ≡ lines_text net x m ++ rest)
lines_begin net x m n l =
    let each : List ℕ → List ℕ = λ (line : List ℕ). line in
    let lines = map (line_of net x) (range_with_len 1 n) in (
      flat_map each (drop m lines),
      sym (flat_map-map each (line_of net x) (range_with_len 1 n))
          ∙ (ap (flat_map each) (sym (take-append-drop m lines))
          ∙ (flat_map-append each (take m lines) (drop m lines)
          ∙ ap (λ (z : List ℕ). z ++ flat_map each (drop m lines)) (ap (flat_map each) (take-map-range_with_len (line_of net x) 1 n m l) ∙ flat_map-map each (line_of net x) (range_with_len 1 m)))),
    )

-- the lines of the numbers 1 to n: a first part is written, and the block begins with the rest
pub record HasGathered (net : NetLists) (x : ℕ → ℕ → Date) (old new : SinkState) (block : List ℕ) (filled n : ℕ) : Type 0 where
  pub text : List ℕ
  pub written : WritesText old new text (Ok tt)
  pub is : text ++ take filled block ≡ lines_text net x n

pub gathered_none : (net : NetLists) (x : ℕ → ℕ → Date) (a : SinkState) (block : List ℕ) → HasGathered net x a a block 0 0
gathered_none net x a block = record { text = []; written = writes_none a; is = refl }

-- with the row of the next number in the block, it begins with the rest of one line more
row_more : (net : NetLists) (x : ℕ → ℕ → Date) (a b : SinkState) (block block' : List ℕ) (row : List Date) (filled end n : ℕ) →
    (h : HasGathered net x a b block filled n) → IsRowOf net x (n + 1) row → take end block' ≡ take filled block ++ row_text (n + 1) row →
    h.text ++ take end block' ≡ lines_text net x (n + 1)
row_more net x a b block block' row filled end n h is pushed =
    let line = line_of net x (n + 1) in
    lines_more net x n (h.text ++ take filled block) (h.text ++ take end block')
    (ap (λ (l : List ℕ). h.text ++ l) (pushed ∙ ap (λ (l : List ℕ). take filled block ++ l) (row_is_line net x (n + 1) row is)) ∙ sym (append_assoc h.text (take filled block) line))
    h.is

-- one row more, of which what is full was written
pub gathered_more : (net : NetLists) (x : ℕ → ℕ → Date) (a b c : SinkState) (block block' : List ℕ) (row : List Date) (filled end left n : ℕ) →
    HasGathered net x a b block filled n → IsRowOf net x (n + 1) row → take end block' ≡ take filled block ++ row_text (n + 1) row → WritesFull b c block' end (Ok left) →
    HasGathered net x a c block' left (n + 1)
gathered_more net x a b c block block' row filled end left n h is pushed full = record {
  text = h.text ++ full.2.0;
  written = writes_then a b c h.text full.2.0 (Ok tt) h.written full.2.1;
  is = append_assoc h.text full.2.0 (take left block')
      ∙ (ap (λ (l : List ℕ). h.text ++ l) full.2.2 ∙ row_more net x a b block block' row filled end n h is pushed);
}

-- or a fault came first
pub gathered_cut : (net : NetLists) (x : ℕ → ℕ → Date) (a b c : SinkState) (block block' : List ℕ) (row : List Date) (filled end n count : ℕ) (e : SinkFault) →
    HasGathered net x a b block filled n → IsRowOf net x (n + 1) row → take end block' ≡ take filled block ++ row_text (n + 1) row → WritesFull b c block' end (Err e) → n + 1 ≤ count →
    WritesText a c (lines_text net x count) (Err e)
gathered_cut net x a b c block block' row filled end n count e h is pushed full l =
    let rest = lines_begin net x (n + 1) count l in
    let whole : h.text ++ (take end block' ++ rest.0) ≡ lines_text net x count =
    sym (append_assoc h.text (take end block') rest.0) ∙ (ap (λ (z : List ℕ). z ++ rest.0) (row_more net x a b block block' row filled end n h is pushed) ∙ sym rest.1) in
    subst (λ (z : List ℕ). WritesText a c z (Err e)) whole (writes_cut a b c h.text (take end block') rest.0 e h.written (cut_of b c block' end e full))

-- what was left is written at the end
pub gathered_last : (net : NetLists) (x : ℕ → ℕ → Date) (a b c : SinkState) (block : List ℕ) (filled count : ℕ) (r : Result (Unit {0}) SinkFault) →
    HasGathered net x a b block filled count → WritesText b c (take filled block) r → WritesText a c (lines_text net x count) r
gathered_last net x a b c block filled count r h k = subst (λ (z : List ℕ). WritesText a c z r) h.is (writes_then a b c h.text (take filled block) r h.written k)

-- ---- the whole list

-- the head and then the lines
pub list_written : (net : NetLists) (x : ℕ → ℕ → Date) (count : ℕ) (a b c : SinkState) (head : List ℕ) (r : Result (Unit {0}) SinkFault) → head ≡ head_text net count →
    WritesText a b head (Ok tt) → WritesText b c (lines_text net x count) r → WritesText a c (list_text net x count) r
list_written net x count a b c head r is h k =
    let whole : head ++ lines_text net x count ≡ list_text net x count = ap (λ (l : List ℕ). l ++ lines_text net x count) is ∙ list_of_lines net x count in
    subst (λ (z : List ℕ). WritesText a c z r) whole (writes_then a b c head (lines_text net x count) r h k)

-- a first part of the head before a fault
pub head_cut : (net : NetLists) (x : ℕ → ℕ → Date) (count : ℕ) (a c : SinkState) (head : List ℕ) (e : SinkFault) → head ≡ head_text net count →
    WritesText a c head (Err e) → WritesText a c (list_text net x count) (Err e)
head_cut net x count a c head e is k =
    let whole : head ++ lines_text net x count ≡ list_text net x count = ap (λ (l : List ℕ). l ++ lines_text net x count) is ∙ list_of_lines net x count in
    subst (λ (z : List ℕ). WritesText a c z (Err e)) whole (writes_cut a a c [] head (lines_text net x count) e (writes_none a) k)

-- the list was written
pub told_whole : (net net' : NetLists) (x : ℕ → ℕ → Date) (count : ℕ) (a c : SinkState) → net' ≡ net → IsLeastDating net x →
    ((y : ℕ → ℕ → Date) → IsLeastDating net' y → WritesText a c (list_text net' y count) (Ok tt)) → WritesOutcome (SaysList count net) a c Done
told_whole net net' x count a c same least h =
    let k = subst (λ (n : NetLists). (y : ℕ → ℕ → Date) → IsLeastDating n y → WritesText a c (list_text n y count) (Ok tt)) same h x least in
    (Some (VerdictDone, list_text net x count), (refl, (x, least, refl)), inl (refl, k.0, k.1))

-- or a first part of it before a fault
pub told_cut : (net net' : NetLists) (x : ℕ → ℕ → Date) (count : ℕ) (a c : SinkState) (e : SinkFault) → net' ≡ net → IsLeastDating net x →
    ((y : ℕ → ℕ → Date) → IsLeastDating net' y → WritesText a c (list_text net' y count) (Err e)) → WritesOutcome (SaysList count net) a c WriteFault
told_cut net net' x count a c Failed same least h =
    let k = subst (λ (n : NetLists). (y : ℕ → ℕ → Date) → IsLeastDating n y → WritesText a c (list_text n y count) (Err Failed)) same h x least in
    (Some (VerdictDone, list_text net x count), (refl, (x, least, refl)), inr (refl, k.0, k.1))
