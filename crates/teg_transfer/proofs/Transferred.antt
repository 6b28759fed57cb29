-- The times from the inputs of a net to its outputs.
use Rattle.std.proofs.Common.{◌≡◌, ◌+◌, ◌<◌, ◌++◌, ◌∷◌, [], ℕ, Bool, cond, ap, ◌∙◌, true, false, List, Option, Some, None, All, length, map, take, get_or, refl, sym, subst, arith}
use Rattle.std.specs.Prelude.{IsSomeAnd, slice_get}
use Rattle.std.specs.List.{filter, range_with_len}
use Rattle.std.specs.Option.{option_map_or}
use Rattle.std.proofs.lemmas.Bool.{false≢true}
use Rattle.std.proofs.lemmas.List.{append-nil, get_or-map, length-map, map-append}
use Rattle.std.proofs.lemmas.List.Elements.{All-append, All-cons, All-filter, All-map, All-nil, filter_passes}
use Rattle.std.proofs.Math.Seq.{take-suc}
use Rattle.std.proofs.lemmas.List.FromFn.{filter_of_map_range_with_len_more, get_or-map-range_with_len, length-map-range_with_len}
use native.Mathlib.Numerals.{unary_clauses}
use Rattle.teg_settle.specs.settled_laws.SettledForms.{SettledForm}
use Rattle.teg_net.specs.declared.entries.Role.{Role}
use Rattle.teg_net.specs.declared.entries.Role.TheVariants.{Internal, Input, Output}
use Rattle.teg_net.specs.declared.entries.Transition.{Transition}
use Rattle.teg_net.specs.declared.entries.TransitionId.{TransitionId}
use Rattle.teg_net.specs.Nets.{NetLists, IsInput}
use Rattle.teg_report.specs.SettledTexts.{AreTimesIn, TimesFrom, TimesTo}
use Rattle.teg_transfer.specs.TimesFromInputs.{AreTimesFrom, IsTimesFrom, has_transition_role, is_same_role, those_of_role, times_in, transition_id}

-- the transitions of a role are some of the net
pub those_within : (net : NetLists) (role : Role) → All (λ t. t.index < length net.transitions) (those_of_role net role)
those_within net role =
    All-filter (has_transition_role net role) (λ (t : TransitionId). t.index < length net.transitions) (map transition_id (range_with_len 0 (length net.transitions)))
    (λ k d lt. within k d (omega (arith, lt, length-map-range_with_len transition_id 0 (length net.transitions))))
  where
    within : (k : ℕ) (d : TransitionId) → k < length net.transitions → (get_or (map transition_id (range_with_len 0 (length net.transitions))) k d).index < length net.transitions
    within k d lt = rw (get_or-map-range_with_len transition_id 0 (length net.transitions) k k d lt (omega arith)) lt

-- one transition more
pub one_more : (net : NetLists) (role : Role) (k : ℕ) → has_transition_role net role (transition_id k) ≡ true →
    filter (has_transition_role net role) (map transition_id (range_with_len 0 (k + 1))) ≡ filter (has_transition_role net role) (map transition_id (range_with_len 0 k)) ++ transition_id k ∷ []
one_more net role k h = filter_of_map_range_with_len_more (has_transition_role net role) transition_id 0 k k (omega arith)
    ∙ ap (λ (b : Bool). filter (has_transition_role net role) (map transition_id (range_with_len 0 k)) ++ cond b (transition_id k ∷ []) []) h

pub none_more : (net : NetLists) (role : Role) (k : ℕ) → has_transition_role net role (transition_id k) ≡ false →
    filter (has_transition_role net role) (map transition_id (range_with_len 0 (k + 1))) ≡ filter (has_transition_role net role) (map transition_id (range_with_len 0 k))
none_more net role k h =
    filter_of_map_range_with_len_more (has_transition_role net role) transition_id 0 k k (omega arith)
    ∙ (ap (λ (b : Bool). filter (has_transition_role net role) (map transition_id (range_with_len 0 k)) ++ cond b
    (transition_id k ∷ []) []) h ∙ append-nil (filter (has_transition_role net role) (map transition_id (range_with_len 0 k))))

input_role : (role : Role) → is_same_role role Input ≡ true → role ≡ Input
input_role Internal h = absurd (false≢true h)
input_role Input h = refl
input_role Output h = absurd (false≢true h)

input_there : (o : Option Transition) → option_map_or (λ x. is_same_role x.role Input) o false ≡ true → IsSomeAnd o (λ x. x.role ≡ Input)
input_there None h = absurd (false≢true h)
input_there (Some x) h = input_role x.role h

-- those of the role of inputs are inputs
pub those_are_inputs : (net : NetLists) → All (λ t. IsInput net t.index) (those_of_role net Input)
those_are_inputs net k d lt =
    input_there (slice_get net.transitions (get_or (those_of_role net Input) k d).index)
    (filter_passes (has_transition_role net Input) (map transition_id (range_with_len 0 (length net.transitions))) k d lt)

lines_within : (net : NetLists) (f : SettledForm) → All (λ l. l.to.index < length net.transitions) (map (times_in f) (those_of_role net Output))
lines_within net f = All-map (λ (l : TimesTo). l.to.index < length net.transitions) (times_in f) (those_of_role net Output) (those_within net Output)

-- such times from one input can be told
pub times_within : (net : NetLists) (limit : ℕ) (times : TimesFrom) → times.from.index < length net.transitions → IsTimesFrom net limit times → AreTimesIn net times
times_within net limit times from h =
    record { from = from; lines = subst (λ (z : TimesFrom). All (λ l. l.to.index < length net.transitions) z.lines) (sym h.3) (lines_within net h.0) }

-- such times can be told
pub times_told : (net : NetLists) (limit : ℕ) (times : List TimesFrom) → AreTimesFrom net limit times → All (AreTimesIn net) times
times_told net limit times h k d lt = times_within net limit (get_or times k d) (from_within k d lt) (h.each k d lt)
  where
    froms : All (λ t. t.index < length net.transitions) (map (λ from. from.from) times)
    froms = subst (λ (ts : List TransitionId). All (λ t. t.index < length net.transitions) ts) (sym h.inputs) (those_within net Input)

    from_within : (k : ℕ) (d : TimesFrom) → k < length times → (get_or times k d).from.index < length net.transitions
    from_within k d lt = rw (get_or-map (λ (t : TimesFrom). t.from) times k d d.from lt) at (froms k d.from (omega (arith, lt, length-map times (λ (t : TimesFrom). t.from))))

-- the times from one input more
pub one_input_more : (net : NetLists) (limit k : ℕ) (inputs : List TransitionId) (d : TransitionId) (times all : List TimesFrom)
    (from : TimesFrom) → k < length inputs → map (λ from. from.from) times ≡ take k inputs →
    All (IsTimesFrom net limit) times → from.from ≡ get_or inputs k d → IsTimesFrom net limit from → all ≡ times ++ from ∷ [] →
    (map (λ from. from.from) all ≡ take (k + 1) inputs) × All (IsTimesFrom net limit) all
one_input_more net limit k inputs d times all from lt before each named here e =
    let fs : TimesFrom → TransitionId = λ from. from.from in
    let taken : take (k + 1) inputs ≡ take k inputs ++ get_or inputs k d ∷ [] = simp unary_clauses (take-suc inputs k d lt) in
    let longer : map fs all ≡ take (k + 1) inputs =
    ap (map fs) e ∙ (map-append fs times (from ∷ []) ∙ (ap (λ (ts : List TransitionId). ts ++ fs from ∷ []) before ∙ (ap (λ (t : TransitionId). take k inputs ++ t ∷ []) named ∙ sym taken))) in
    (longer, subst (All (IsTimesFrom net limit)) (sym e) (All-append (IsTimesFrom net limit) times (from ∷ []) each (All-cons (IsTimesFrom net limit) from [] here (All-nil (IsTimesFrom net limit)))))
