-- The text of the times from the inputs, input by input.
use Rattle.std.proofs.Common.{◌≡◌, ℕ, ◌+◌, ◌<◌, List, [], ◌∷◌, ◌++◌, length, take, get_or, refl, sym, subst, ap, ◌∙◌}
use Rattle.std.specs.List.{flat_map}
use Rattle.std.proofs.lemmas.List.{append-nil, flat_map_more, length-map, map-append}
use Rattle.std.proofs.lemmas.List.Elements.{All-nil, All-push}
use Rattle.std.proofs.Math.Seq.{take-suc}
use native.Mathlib.Numerals.{unary_clauses}
use Rattle.teg_net.specs.declared.entries.Role.TheVariants.{Input}
use Rattle.teg_net.specs.declared.entries.TransitionId.{TransitionId}
use Rattle.teg_net.specs.Nets.{NetLists, IsInput}
use Rattle.teg_report.specs.AnswerMeanings.{times_from}
use Rattle.teg_report.specs.declared.answer.TransferFrom.{TransferFrom}
use Rattle.teg_report.specs.SettledTexts.{AreTimesKept, TimesFrom, from_lines, output_count, transfer_line, transfer_lines}
use Rattle.teg_report.specs.teg_text.Lines.{line_then, written}
use Rattle.teg_report.proofs.teg_text_proofs.Joining.{line_append, written_flat_map}
use Rattle.teg_transfer.specs.TimesFromInputs.{IsTimesFrom, those_of_role}
use Rattle.teg_transfer.specs.TransferTexts.{AreInputTimes, AreToldBehind, IsToldBehind, IsTransferText}

-- what is told of the times from one input alone: the first line, and its lines
pub one_alone : (net : NetLists) (from : TimesFrom) (first alone : List ℕ) → alone ≡ written (transfer_lines net (from ∷ [])) →
    first ≡ line_then (transfer_line 1 (output_count net)) [] → alone ≡ first ++ written (from_lines net from)
one_alone net from first alone h is =
    let line = transfer_line 1 (output_count net) in
    let lines = from_lines net from in
    h
    ∙ (line_append line (written (lines ++ []))
    ∙ (ap (λ (ls : List (List (List ℕ))). line_then line [] ++ written ls) (append-nil lines) ∙ ap (λ (l : List ℕ). l ++ written lines) (sym is)))

-- nothing is told behind the head
pub none_told : (net : NetLists) (limit : ℕ) (head : List ℕ) → AreToldBehind net limit [] head head
none_told net limit head = record {
  times = [];
  froms = refl;
  each = All-nil (IsTimesFrom net limit);
  kept = All-nil AreTimesKept;
  told = sym (append-nil head);
}

-- the times from one input more
pub one_told : (net : NetLists) (limit k : ℕ) (inputs : List TransitionId) (d : TransitionId) (head text more : List ℕ) → k < length inputs →
    AreToldBehind net limit (take k inputs) head text → IsToldBehind net limit (get_or inputs k d) text more → AreToldBehind net limit (take (k + 1) inputs) head more
one_told net limit k inputs d head text more lt h one =
    let from : TimesFrom = one.0 in
    let lines : TimesFrom → List ℕ = λ x. written (from_lines net x) in
    let fs : TimesFrom → TransitionId = λ x. x.from in
    let taken : take (k + 1) inputs ≡ take k inputs ++ get_or inputs k d ∷ [] = simp unary_clauses (take-suc inputs k d lt) in
    record {
      times = h.times ++ from ∷ [];
      froms = map-append fs h.times (from ∷ []) ∙ (ap (λ (ts : List TransitionId). ts ++ fs from ∷ []) h.froms ∙ (ap (λ (t : TransitionId). take k inputs ++ t ∷ []) one.1 ∙ sym taken));
      each = All-push (IsTimesFrom net limit) h.times from h.each one.2;
      kept = All-push AreTimesKept h.times from h.kept one.3;
      told = one.4 ∙ (ap (λ (l : List ℕ). l ++ lines from) h.told ∙ flat_map_more lines head h.times from);
    }

-- the times from all inputs
pub all_told : (net : NetLists) (limit count : ℕ) (inputs : List TransitionId) (head text : List ℕ) → inputs ≡ those_of_role net Input → count ≡ length inputs →
    head ≡ line_then (transfer_line count (output_count net)) [] → AreToldBehind net limit inputs head text → IsTransferText net limit text
all_told net limit count inputs head text are counted first h =
    let times : List TimesFrom = h.times in
    let lines : List ℕ = flat_map (λ x. written (from_lines net x)) times in
    let long : length times ≡ length inputs = sym (length-map times (λ (x : TimesFrom). x.from)) ∙ ap length h.froms in
    let line = transfer_line (length times) (output_count net) in
    let first' : head ≡ line_then line [] = first ∙ ap (λ (n : ℕ). line_then (transfer_line n (output_count net)) []) (counted ∙ sym long) in (
      times,
      record { inputs = h.froms ∙ are; each = h.each },
      h.kept,
      h.told
          ∙ (ap (λ (l : List ℕ). l ++ lines) first'
          ∙ (ap (λ (l : List ℕ). line_then line [] ++ l) (sym (written_flat_map (from_lines net) times)) ∙ sym (line_append line (written (flat_map (from_lines net) times))))),
    )

-- no times are kept
pub no_times : (net : NetLists) (limit : ℕ) → AreInputTimes net limit []
no_times net limit = record { inputs = All-nil (λ from. IsInput net from.from.index); each = All-nil (λ from. IsTimesFrom net limit (times_from from)) }

-- the times from one input more are kept
pub times_more : (net : NetLists) (limit : ℕ) (input : TransitionId) (all more : List TransferFrom) (from : TransferFrom) → more ≡ all ++ from ∷ [] → AreInputTimes net limit all →
    IsInput net input.index → from.from ≡ input → IsTimesFrom net limit (times_from from) → AreInputTimes net limit more
times_more net limit input all more from e h is named times =
    let is' : IsInput net from.from.index = subst (λ (t : TransitionId). IsInput net t.index) (sym named) is in
    subst (AreInputTimes net limit) (sym e) record {
      inputs = All-push (λ (x : TransferFrom). IsInput net x.from.index) all from h.inputs is';
      each = All-push (λ (x : TransferFrom). IsTimesFrom net limit (times_from x)) all from h.each times;
    }
