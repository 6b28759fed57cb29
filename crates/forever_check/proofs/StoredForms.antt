-- The form that rows of a net tell is one that can be kept in memory.
use Rattle.std.proofs.Common.{ℕ, ℤ, zero, suc, ◌+◌, ◌<◌, ◌≤◌, ◌≡◌, List, [], ◌∷◌, ◌++◌, length, map, take, get_or, refl, sym, ap, subst, ◌∙◌, arith}
use Rattle.std.specs.Prelude.{pos}
use Rattle.std.specs.List.{range_with_len}
use native.Mathlib.Numerals.{unary_clauses}
use Rattle.std.proofs.Math.Seq.{take-suc}
use Rattle.std.proofs.lemmas.List.{take_all}
use Rattle.std.proofs.lemmas.List.FromFn.{get_or-range_with_len, length-map-range_with_len, length-range_with_len, map-range_with_len_more}
use Rattle.dioid.specs.declared.dates.Date.{Date}
use Rattle.teg_net.specs.Limits.{most_rows}
use Rattle.teg_net.specs.Nets.{NetLists, IsNet}
use Rattle.teg_net.specs.Circuits.{IsLive}
use Rattle.teg_model.proofs.LiveRanks.{live_ranks}
use Rattle.teg_model.proofs.OfNet.{net_ends}
use Rattle.teg_model.proofs.NetBound.{least_keeps_bound}
use Rattle.settled_laws.specs.SettledForms.{SettledForm, IsSettledFormOf, settled_length}
use Rattle.settled_laws.proofs.Telling.{form_tells}
use Rattle.settled_forms.specs.KeptForms.{IsFormKept}
use Rattle.settled_forms.specs.Stored.{IsStored, stored_form}
use Rattle.dating_certificates.specs.CheckedRows.{date_in_rows}
use Rattle.settled_certificates.specs.SettledRows.{form_by_rows}

-- what is read of a list, number by number, is the list
reads : {X : Type 0} (xs : List X) (d : X) (n : ℕ) → n ≤ length xs → map (λ i. get_or xs i d) (range_with_len 0 n) ≡ take n xs
reads xs d zero l = refl
reads {X} xs d (suc n) l =
    let e : suc n ≡ n + 1 = omega arith in
    let taken : take (n + 1) xs ≡ take n xs ++ get_or xs n d ∷ [] = simp unary_clauses (take-suc xs n d (omega arith)) in
    subst (λ (k : ℕ). map (λ (i : ℕ). get_or xs i d) (range_with_len 0 k) ≡ take k xs) (sym e)
    (map-range_with_len_more (λ (i : ℕ). get_or xs i d) 0 n n (omega arith) ∙ (ap (λ (l : List X). l ++ get_or xs n d ∷ []) (reads xs d n (omega arith)) ∙ sym taken))

reads_all : {X : Type 0} (xs : List X) (d : X) (n : ℕ) → length xs ≡ n → map (λ i. get_or xs i d) (range_with_len 0 n) ≡ xs
reads_all xs d n e = reads xs d n (omega (arith, e)) ∙ take_all n xs (omega (arith, e))

-- the rows of the form by rows of dates
abbrev pub told_rows : ℕ → List Date → ℕ → List (List Date)
told_rows width dates count = map (λ t. map (date_in_rows width dates t) (range_with_len 1 count)) (range_with_len 0 width)

pub stored_is : (width : ℕ) (dates : List Date) (after period : ℕ) (steps : List ℤ) → length steps ≡ width
    → stored_form after period (told_rows width dates (after + period)) steps (range_with_len 0 width) ≡ form_by_rows width dates after period steps
stored_is width dates after period steps e =
    let rows : List (List Date) = told_rows width dates (after + period) in
    let one : map (λ i. get_or rows i []) (range_with_len 0 width) ≡ rows =
    reads_all rows [] width (length-map-range_with_len (λ (t : ℕ). map (date_in_rows width dates t) (range_with_len 1 (after + period))) 0 width) in
    let two : map (λ i. get_or steps i (pos 0)) (range_with_len 0 width) ≡ steps = reads_all steps (pos 0) width e in
    ap (λ (rs : List (List Date)). record { after = after; period = period; rows = rs; steps = map (λ i. get_or steps i (pos 0)) (range_with_len 0 width) }) one
    ∙ ap (λ (ss : List ℤ). record { after = after; period = period; rows = rows; steps = ss }) two

-- a settled form of a net that is not too long can be kept
form_kept : (net : NetLists) (f : SettledForm) → IsNet net → IsLive net → IsSettledFormOf net f → settled_length f ≤ most_rows → IsFormKept f
form_kept net f ok live form short =
    let stands = form.2.stands in
    let rows = stands.sizes.rows_are in
    let ranks = live_ranks net (net_ends net ok) live in
    record {
      sizes = rw rows stands.sizes;
      few = omega (arith, rows, ok.few_transitions);
      short = short;
      within = λ t k l one m.
          let in' : t < length net.transitions = omega (arith, rows) in
          rw (form_tells (length net.transitions) f form.0 stands t k in' one)
          (least_keeps_bound net form.0 (suc (suc (length net.transitions))) ranks.0 ok (omega (arith, ok.few_transitions)) ranks.1 form.1 t k in' one m);
    }

-- so the form by rows that is the net's can be stored
pub is_stored : (net : NetLists) (dates : List Date) (after period : ℕ) (steps : List ℤ) → IsNet net → IsLive net → after + period ≤ most_rows → length steps ≡ length net.transitions
    → IsSettledFormOf net (form_by_rows (length net.transitions) dates after period steps)
    → IsStored after period (told_rows (length net.transitions) dates (after + period)) steps (range_with_len 0 (length net.transitions))
is_stored net dates after period steps ok live short e form =
    let n : ℕ = length net.transitions in
    let rows : length (told_rows n dates (after + period)) ≡ n = length-map-range_with_len (λ (t : ℕ). map (date_in_rows n dates t) (range_with_len 1 (after + period))) 0 n in
    record {
      kept = rw (stored_is n dates after period steps e) (form_kept net (form_by_rows n dates after period steps) ok live form short);
      rows_in = λ i d l.
          let small : i < n = omega (arith, length-range_with_len 0 n) in
          omega (arith, rows, get_or-range_with_len 0 n i d small);
      steps_count = e ∙ sym rows;
    }
