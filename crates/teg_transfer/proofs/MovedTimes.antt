-- The times from inputs whose places lead on alike, but that from one all places are held so much longer than from the other: those from it
-- are those from the other, all moved.
use Rattle.std.proofs.Common.{ℕ, ℤ, suc, ◌<◌, ◌≤◌, ◌≡◌, true, false, List, [], ◌∷◌, Option, Some, None, All, length, map, take, get_or, refl, sym, subst, ap, ◌∙◌, arith}
use Rattle.std.specs.Prelude.{Contains, IfOk, IfSome, IsSomeAnd, Result, slice_get}
use Rattle.std.specs.List.{range_with_len}
use Rattle.std.specs.Option.{option_map_or}
use Rattle.std.proofs.lemmas.Bool.{false≢true}
use Rattle.std.proofs.lemmas.List.{get_or-map, length-map}
use Rattle.std.proofs.lemmas.List.Elements.{All-contains, All-take, Contains-get_or, filter_passes}
use Rattle.std.proofs.lemmas.Option.{IfSome_then}
use Rattle.std.proofs.lemmas.Result.{IfOk-weaker}
use Rattle.std.proofs.lemmas.Simd.{map-map}
use Rattle.teg_settle.specs.settled_laws.SettledForms.{SettledForm, settled_length, row_of, step_of_form}
use Rattle.teg_report.specs.dioid.declared.dates.Date.{Date}
use Rattle.teg_report.specs.dioid.Dates.{move}
use Rattle.teg_net.specs.declared.entries.Role.{Role}
use Rattle.teg_net.specs.declared.entries.Role.TheVariants.{Internal, Input, Output}
use Rattle.teg_net.specs.declared.entries.Transition.{Transition}
use Rattle.teg_net.specs.declared.entries.TransitionId.{TransitionId}
use Rattle.teg_net.specs.Circuits.{IsLive}
use Rattle.teg_net.specs.Nets.{NetLists, IsNet, IsInput}
use Rattle.teg_net.proofs.NetRules.{net_ends}
use Rattle.teg_report.specs.declared.answer.TransferFrom.{TransferFrom}
use Rattle.teg_report.specs.declared.answer.TransferLine.{TransferLine}
use Rattle.teg_report.specs.AnswerMeanings.{times_from, times_to}
use Rattle.teg_report.specs.SettledTexts.{TimesFrom, TimesTo}
use Rattle.teg_settle.specs.walk_times.WalkTimes.{WalkTimesSettle}
use Rattle.teg_lags.specs.Lags.{AreLagged, IsFormMoved}
use Rattle.teg_lags.proofs.Lagged.{lagged_times}
use Rattle.teg_transfer.specs.MovedTimes.{AreMovedFrom, AreMovedFromOne, line_moved, times_moved}
use Rattle.teg_transfer.specs.TimesFromInputs.{IsTimesFrom, has_transition_role, is_same_role, those_of_role, times_in, transition_id}
use Rattle.teg_transfer.proofs.Transferred.{those_are_inputs, those_within}

-- ---- times

abbrev times_so : TransitionId → List Date → ℤ → TimesTo
times_so t dates step = record { to = t; dates = dates; step = step }

times_same : (t : TransitionId) (a b : List Date) (m n : ℤ) → a ≡ b → m ≡ n → times_so t a m ≡ times_so t b n
times_same t a b m n d e = ap (λ z. times_so t z m) d ∙ ap (times_so t b) e

abbrev pub all_so : TransitionId → ℕ → ℕ → List TimesTo → TimesFrom
all_so input after period lines = record { from = input; after = after; period = period; lines = lines }

all_same : (input : TransitionId) (a b p q : ℕ) (k l : List TimesTo) → a ≡ b → p ≡ q → k ≡ l → all_so input a p k ≡ all_so input b q l
all_same input a b p q k l d e h = ap (λ z. all_so input z p k) d ∙ (ap (λ z. all_so input b z k) e ∙ ap (all_so input b q) h)

mapped_same : (f : TimesTo → TimesTo) (g h : TransitionId → TimesTo) (ts : List TransitionId)
    → ((k : ℕ) (d : TransitionId) → k < length ts → f (g (get_or ts k d)) ≡ h (get_or ts k d)) → map f (map g ts) ≡ map h ts
mapped_same f g h [] each = refl
mapped_same f g h (t ∷ ts) each =
    let head : f (g t) ≡ h t = each 0 t (omega arith) in
    let tail : map f (map g ts) ≡ map h ts = mapped_same f g h ts (λ k d l. each (suc k) d (omega arith)) in
    rw (head, tail) refl

-- outputs are no inputs
output_role : (role : Role) → is_same_role role Output ≡ true → role ≡ Input → ⊥
output_role Internal h e = absurd (false≢true h)
output_role Input h e = absurd (false≢true h)
output_role Output h e = absurd (cc)

output_there : (o : Option Transition) → option_map_or (λ x. is_same_role x.role Output) o false ≡ true → IsSomeAnd o (λ x. x.role ≡ Input) → ⊥
output_there None h e = absurd (false≢true h)
output_there (Some x) h e = output_role x.role h e

no_inputs : (net : NetLists) (k : ℕ) (d : TransitionId) → k < length (those_of_role net Output) → IsInput net (get_or (those_of_role net Output) k d).index → ⊥
no_inputs net k d lt =
    output_there (slice_get net.transitions (get_or (those_of_role net Output) k d).index)
    (filter_passes (has_transition_role net Output) (map transition_id (range_with_len 0 (length net.transitions))) k d lt)

-- the times from an input that leads on as another one does, but that all is held so much longer, are that one's times, all so much longer
pub moved_times_from : (net : NetLists) → IsNet net → IsLive net → WalkTimesSettle → (limit : ℕ) (all : TimesFrom) (input : TransitionId) (lag : ℤ)
    → IsInput net all.from.index → IsInput net input.index → AreLagged net all.from.index input.index lag → IsTimesFrom net limit all → IsTimesFrom net limit (times_moved lag input all)
moved_times_from net ok live settle limit all input lag first second lagged h =
    let f : SettledForm = h.0 in
    let made = settle net (net_ends net ok) live input.index second in
    let g : SettledForm = made.0 in
    let outs : List TransitionId = those_of_role net Output in
    let moved : IsFormMoved net lag f g = lagged_times net ok all.from.index input.index lag first second lagged f g h.1 made.1 in
    let after : f.after ≡ g.after = moved.after in
    let period : f.period ≡ g.period = moved.period in
    let short : settled_length f ≤ limit = h.2 in
    let lines : map (line_moved lag) (map (times_in f) outs) ≡ map (times_in g) outs = mapped_same (line_moved lag) (times_in f) (times_in g) outs
    (λ k d l.
    let t : TransitionId = get_or outs k d in
    let within : t.index < length net.transitions = those_within net Output k d l in
    let outside : IsInput net t.index → ⊥ = no_inputs net k d l in
    times_same t (map (move lag) (row_of f t.index)) (row_of g t.index) (step_of_form f t.index) (step_of_form g t.index)
    (moved.rows t.index within outside)
    (moved.steps t.index within outside)) in (
      g,
      made.1,
      omega (arith, after, period, short),
      ap (times_moved lag input) h.3 ∙ all_same input f.after g.after f.period g.period (map (line_moved lag) (map (times_in f) outs)) (map (times_in g) outs) after period lines,
    )

-- ---- times of several inputs

pub froms_inputs : (net : NetLists) (k : ℕ) (times : List TransferFrom) → map (λ from. from.from) (map times_from times) ≡ take k (those_of_role net Input)
    → All (λ from. IsInput net from.from.index) times
froms_inputs net k times e i d l =
    let fs : TimesFrom → TransitionId = λ from. from.from in
    let long : length (map times_from times) ≡ length times = length-map times times_from in
    let all : length (map fs (map times_from times)) ≡ length times = length-map (map times_from times) fs ∙ long in
    let inputs : All (λ (t : TransitionId). IsInput net t.index) (map fs (map times_from times)) =
    subst (All (λ (t : TransitionId). IsInput net t.index)) (sym e) (All-take (λ (t : TransitionId). IsInput net t.index) k (those_of_role net Input) (those_are_inputs net)) in
    let read : get_or (map fs (map times_from times)) i d.from ≡ (get_or times i d).from =
    get_or-map fs (map times_from times) i (times_from d) d.from (omega (arith, l, long)) ∙ ap fs (get_or-map times_from times i d (times_from d) l) in
    subst (λ (t : TransitionId). IsInput net t.index) read (inputs i d.from (omega (arith, l, all)))

pub each_times : (net : NetLists) (limit : ℕ) (times : List TransferFrom) → All (IsTimesFrom net limit) (map times_from times) → All (λ from. IsTimesFrom net limit (times_from from)) times
each_times net limit times h i d l =
    let long : length (map times_from times) ≡ length times = length-map times times_from in
    subst (IsTimesFrom net limit) (get_or-map times_from times i d (times_from d) l) (h i (times_from d) (omega (arith, l, long)))

-- times moved from those of one of them
pub moved_from_one : (net : NetLists) → IsNet net → IsLive net → WalkTimesSettle → (limit : ℕ) (input : TransitionId) (all : List TransferFrom) (times : TimesFrom)
    → IsInput net input.index → All (λ from. IsInput net from.from.index) all → All (λ from. IsTimesFrom net limit (times_from from)) all
    → AreMovedFromOne net input all times → IsTimesFrom net limit times
moved_from_one net ok live settle limit input all times is inputs each h =
    let other : TransferFrom = h.0 in
    let m : AreMovedFrom net input (times_from other) times = h.2 in
    subst (IsTimesFrom net limit) (sym m.is)
    (moved_times_from net ok live settle limit (times_from other) input m.lag (All-contains (λ from. IsInput net from.from.index) all other inputs h.1) is m.lagged
    (All-contains (λ from. IsTimesFrom net limit (times_from from)) all other each h.1))

-- lines, all so much longer
pub lines_moved : (lag : ℤ) (input : TransitionId) (times : TransferFrom) (lines : List TransferLine) → map times_to lines ≡ map (λ line. line_moved lag (times_to line)) times.lines.items
    → all_so input times.after times.period (map times_to lines) ≡ times_moved lag input (times_from times)
lines_moved lag input times lines h = ap (all_so input times.after times.period) (h ∙ sym (map-map (line_moved lag) times_to times.lines.items))

pub moved_so : {E : Type 0} (net : NetLists) (input : TransitionId) (other : TimesFrom) (lag : ℤ) (r : Result (Option TransferFrom) E) → AreLagged net other.from.index input.index lag
    → IfOk r (λ moved. IfSome moved (λ from. times_from from ≡ times_moved lag input other)) → IfOk r (λ moved. IfSome moved (λ from. AreMovedFrom net input other (times_from from)))
moved_so net input other lag r lagged h =
    IfOk-weaker r (λ moved. IfSome moved (λ from. times_from from ≡ times_moved lag input other)) (λ moved. IfSome moved (λ from. AreMovedFrom net input other (times_from from)))
    (λ moved k. IfSome_then moved k (λ from is. record { lag = lag; lagged = lagged; is = is })) h

pub moved_from_this : (net : NetLists) (input : TransitionId) (all : List TransferFrom) (i : ℕ) (other : TransferFrom) (times : TimesFrom) → i < length all → other ≡ get_or all i other
    → AreMovedFrom net input (times_from other) times → AreMovedFromOne net input all times
moved_from_this net input all i other times l is h = (other, subst (Contains all) (sym is) (Contains-get_or all i other l), h)
