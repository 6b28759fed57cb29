-- Plans, and firings that are later than due, are read back from their lines.
use Rattle.std.proofs.Common.{◌≡◌, ℕ, zero, suc, ◌+◌, ◌-◌, ◌*◌, ◌/◌, ◌%◌, ◌<◌, ◌≤◌, true, false, ◌==◌, ⊎_elim, Option, Some, None, List, [], ◌∷◌}
use Rattle.std.proofs.Common.{◌++◌, map, length, get_or, slice_index_or, refl, ap, sym, ◌∙◌, arith, decimal, eqb-true, codes, div-add-mod'}
use Rattle.std.proofs.Common.{div-lt_iff_lt-mul, mod-lt}
use Rattle.std.proofs.lemmas.Bool.{and_from, cases_Bool}
use Rattle.std.proofs.lemmas.List.{get_or_append_left, get_or-append-add}
use Rattle.std.proofs.lemmas.List.FromFn.{get_or-map-range_with_len, length-map-range_with_len}
use Rattle.std.specs.List.{flat_map, list_all, range_with_len}
use Rattle.teg_jit.specs.declared.answers.LatestDate.{LatestDate}
use Rattle.teg_jit.specs.declared.answers.LatestDate.TheVariants.{Free, At}
use Rattle.teg_jit.specs.declared.answers.Onward.{Onward}
use Rattle.teg_jit.specs.declared.answers.Onward.TheVariants.{Due, By as ByPlace, Next as ToNext}
use Rattle.teg_jit.specs.Plans.{PlanDates, latest_at}
use Rattle.teg_net.specs.declared.entries.PlaceId.{PlaceId}
use Rattle.teg_net.specs.declared.entries.Role.{Role}
use Rattle.teg_net.specs.declared.entries.Role.TheVariants.{Internal, Input, Output}
use Rattle.teg_net.specs.declared.entries.TransitionId.{TransitionId}
use Rattle.teg_net.specs.declared.walks.Step.{Step}
use Rattle.teg_net.specs.declared.walks.Step.TheVariants.{By, Next}
use Rattle.teg_net.specs.Circuits.{place_at, no_place}
use Rattle.teg_net.specs.Nets.{NetLists, IsNet}
use Rattle.teg_net.specs.Walks.{Walks}
use Rattle.teg_report.specs.PlanLines.{latest_in_line, late_in, onward_in, plan_in_lines, steps_in, AreLateNumbers, AreLatestKept, IsLateKept}
use Rattle.teg_report.specs.PlanLines.{IsLatestKept, IsLateIn, IsLatePlanTold, IsLatestIn, IsOnwardIn, IsPlanIn, LateLists, late_line, late_lines}
use Rattle.teg_report.specs.PlanLines.{latest_words, onward_words, path_line, plan_lines, planned_line, planned_lines, role_word, steps_words}
use Rattle.teg_report.specs.AnswerValues.{Jit, Late}
use Rattle.teg_report.proofs.IsRead.{IsRead}
use Rattle.teg_text.proofs.NamesRead.{place_back, place_is_word, transition_back, transition_is_word}
use Rattle.teg_text.specs.Lines.{is_line, is_word}
use Rattle.teg_text.proofs.Back.{number_back, word32_back, word64_back}
use Rattle.teg_text.proofs.LineBlocks.{positive_width, grid_passes, numbered_back}
use Rattle.teg_text.proofs.Words.{decimal_is_word, decimal_is_numeral}
use Rattle.teg_text.specs.WordsOfNames.{name_of_transition, no_transition}

-- latest dates

role_is_word : (role : Role) → is_word (role_word role) ≡ true
role_is_word Internal = refl
role_is_word Input = refl
role_is_word Output = refl

onward_read : (net : NetLists) (onward : Onward) (a b c d : List ℕ) → IsNet net → IsOnwardIn net onward →
    (list_all is_word (onward_words net onward) ≡ true) × (onward_in net (a ∷ b ∷ c ∷ d ∷ onward_words net onward) ≡ onward)
onward_read net Due a b c d rules h = (refl, refl)
onward_read net (ByPlace place) a b c d rules h = (rw (place_is_word net place rules h) refl, ap ByPlace (place_back net place rules h))
onward_read net ToNext a b c d rules h = (refl, refl)

latest_read : (net : NetLists) (latest : LatestDate) (a b c : List ℕ) → IsNet net → IsLatestIn net latest → IsLatestKept latest →
    (list_all is_word (latest_words net latest) ≡ true) × (latest_in_line net (a ∷ b ∷ c ∷ latest_words net latest) ≡ latest)
latest_read net Free a b c rules h kept = (refl, refl)
latest_read net (At date onward) a b c rules h kept =
    let read = onward_read net onward a b c (decimal date) rules h in
    (rw (decimal_is_word date, read.0) refl, rw (decimal_is_numeral date, word64_back date kept, read.1) refl)

planned_read : (net : NetLists) (plan : PlanDates) (t k : ℕ) → IsNet net → IsPlanIn net plan → AreLatestKept plan → t < length net.transitions → k < plan.numbers →
    (is_line (planned_line net plan t k) ≡ true) × (latest_in_line net (planned_line net plan t k) ≡ latest_at plan t (k + 1))
planned_read net plan t k rules h kept l m =
    let within : t < plan.width = omega (arith, l, h.width) in
    let read = latest_read net (latest_at plan t (k + 1)) (role_word (get_or net.transitions t no_transition).role) (name_of_transition net (record { index = t })) (decimal (k + 1)) rules
    (h.each t (k + 1) within (omega arith) (omega (arith, m))) (kept.each t k within m) in
    (rw (role_is_word (get_or net.transitions t no_transition).role, transition_is_word net (record { index = t }) rules l, decimal_is_word (k + 1), read.0) refl, read.1)

-- the cell of a grid, in the list of its cells row by row
grid_at : {L : Type 0} (f : ℕ → ℕ → L) (a width count t k : ℕ) (d : L) → t < width → k < count →
    get_or (flat_map (λ t. map (f t) (range_with_len 0 count)) (range_with_len a width)) (t * count + k) d ≡ f (a + t) k
grid_at f a zero count t k d l m = absurd (omega (arith, l))
grid_at f a (suc width) count zero k d l m =
    let row = map (f a) (range_with_len 0 count) in
    let same : 0 * count + k ≡ k = omega arith in
    let first : a ≡ a + 0 = omega arith in
    ap (λ (i : ℕ). get_or (row ++ flat_map (λ t. map (f t) (range_with_len 0 count)) (range_with_len (a + 1) width)) i d) same
    ∙ (get_or_append_left row _ d k (omega (arith, m, length-map-range_with_len (f a) 0 count))
    ∙ (get_or-map-range_with_len (f a) 0 count k k d m (omega arith) ∙ ap (λ (b : ℕ). f b k) first))
grid_at f a (suc width) count (suc t) k d l m =
    let row = map (f a) (range_with_len 0 count) in
    let rest = flat_map (λ t. map (f t) (range_with_len 0 count)) (range_with_len (a + 1) width) in
    let same : suc t * count + k ≡ length row + (t * count + k) = omega (arith, length-map-range_with_len (f a) 0 count) in
    let next : a + 1 + t ≡ a + suc t = omega arith in
    ap (λ (i : ℕ). get_or (row ++ rest) i d) same
    ∙ (get_or-append-add row rest (t * count + k) d ∙ (grid_at f (a + 1) width count t k d (omega (arith, l)) m ∙ ap (λ (b : ℕ). f b k) next))

planned_back : (net : NetLists) (plan : PlanDates) → IsNet net → IsPlanIn net plan → AreLatestKept plan →
    (plan_in_lines net plan.numbers (flat_map (planned_lines net plan) (range_with_len 0 (length net.transitions)))).dates ≡ plan.dates
planned_back net plan rules h kept =
    let width = length net.transitions in
    let numbers = plan.numbers in
    let lines = flat_map (planned_lines net plan) (range_with_len 0 width) in
    let full : length plan.dates ≡ numbers * width = kept.sizes.full ∙ ap (λ (w : ℕ). numbers * w) h.width in
    numbered_back (λ i. latest_in_line net (get_or lines (i % width * numbers + i / width) [])) (numbers * width) plan.dates Free full
    (λ i l.
    let positive = positive_width i numbers width l in
    let row : i / width < numbers = (div-lt_iff_lt-mul positive).1 l in
    let column : i % width < width = mod-lt i positive in
    let here : (i / width + 1 - 1) * width + i % width ≡ i = ap (λ (q : ℕ). q * width + i % width) (omega arith) ∙ div-add-mod' i width in
    ap (latest_in_line net) (grid_at (planned_line net plan) 0 width numbers (i % width) (i / width) [] column row ∙ ap (λ (t : ℕ). planned_line net plan t (i / width)) (omega arith))
    ∙ ((planned_read net plan (i % width) (i / width) rules h kept column row).1
    ∙ (ap (λ (w : ℕ). slice_index_or plan.dates ((i / width + 1 - 1) * w + i % width) Free) h.width ∙ ap (λ (j : ℕ). slice_index_or plan.dates j Free) here)))

pub plan_read : (plan : PlanDates) → AreLatestKept plan → (net : NetLists) → IsNet net → IsPlanIn net plan → IsRead net (plan_lines net plan) (Jit plan)
plan_read plan kept net rules h =
    let lines = flat_map (planned_lines net plan) (range_with_len 0 (length net.transitions)) in
    let numbers = word32_back plan.numbers (omega (arith, kept.sizes.numbers_in)) in
    let dates = planned_back net plan rules h kept in
    let width : length net.transitions ≡ plan.width = sym h.width in
    record {
      words = rw (decimal_is_word plan.numbers) (grid_passes is_line (planned_line net plan) (length net.transitions) plan.numbers (λ t k l m. (planned_read net plan t k rules h kept l m).0));
      back = ap (λ (n : ℕ). Jit (plan_in_lines net n lines)) numbers ∙ (λ i. Jit (record { width = width i; numbers = plan.numbers; dates = dates i }));
    }

-- walks

ends_in : (net : NetLists) (p : PlaceId) → IsNet net → p.index < length net.places → (place_at net p).to.index < length net.transitions
ends_in net p rules h = (rules.each_place p.index no_place h).to_in

steps_are_words : (net : NetLists) (t : TransitionId) (k : ℕ) (steps : List Step) (b e : ℕ) → IsNet net → t.index < length net.transitions → Walks net t.index k steps b e →
    list_all is_word (steps_words net t k steps) ≡ true
steps_are_words net t k [] b e rules h walks = refl
steps_are_words net t k (By p ∷ steps) b e rules h walks =
    let to = ends_in net p rules walks.0 in
    let rest = steps_are_words net (place_at net p).to (k + (place_at net p).tokens) steps b e rules to walks.2 in
    rw (place_is_word net p rules walks.0, transition_is_word net (place_at net p).to rules to, decimal_is_word (k + (place_at net p).tokens)) rest
steps_are_words net t k (Next ∷ steps) b e rules h walks =
    let rest = steps_are_words net t (k + 1) steps b e rules h walks in
    rw (transition_is_word net t rules h, decimal_is_word (k + 1)) rest

steps_back : (net : NetLists) (n : ℕ) (t : TransitionId) (k : ℕ) (steps : List Step) (b e : ℕ) → IsNet net → Walks net t.index k steps b e →
    length (steps_words net t k steps) ≤ n → steps_in net n (steps_words net t k steps) ≡ steps
steps_back net zero t k [] b e rules walks few = refl
steps_back net (suc n) t k [] b e rules walks few = refl
steps_back net zero t k (By p ∷ steps) b e rules walks few = absurd (omega (arith, few))
steps_back net zero t k (Next ∷ steps) b e rules walks few = absurd (omega (arith, few))
steps_back net (suc n) t k (By p ∷ steps) b e rules walks few =
    let rest = steps_back net n (place_at net p).to (k + (place_at net p).tokens) steps b e rules walks.2 (omega (arith, few)) in
    rw (place_back net p rules walks.0) (ap (λ (s : List Step). By p ∷ s) rest)
steps_back net (suc n) t k (Next ∷ steps) b e rules walks few =
    ap (λ (s : List Step). Next ∷ s) (steps_back net n t (k + 1) steps b e rules walks (omega (arith, few)))

path_is_line : (net : NetLists) (late : LateLists) → IsNet net → IsLateIn net late → is_line (path_line net late.from late.first late.steps) ≡ true
path_is_line net late rules h =
    rw (transition_is_word net late.from rules h.path.inside, decimal_is_word late.first)
    (steps_are_words net late.from late.first late.steps _ _ rules h.path.inside h.path.walks.2)

late_is_line : (net : NetLists) (late : LateLists) → IsNet net → IsLateIn net late → is_line (late_line net late.transition late.number late.due late.least) ≡ true
late_is_line net late rules h = rw (transition_is_word net late.transition rules h.transition, decimal_is_word late.number, decimal_is_word late.due, decimal_is_word late.least) refl

-- what is read from the lines, but for the start
record IsLateRead (net : NetLists) (late : LateLists) : Type 0 where
  lines : list_all is_line (late_lines net (Some late)) ≡ true
  back : late_in net (late_lines net (Some late)) ≡ late

late_back : (net : NetLists) (late : LateLists) → IsNet net → IsLateIn net late → AreLateNumbers late → IsLateRead net late
late_back net late rules h kept =
    let transition = transition_back net late.transition rules h.transition in
    let number = word32_back late.number kept.number in
    let due = word64_back late.due kept.due in
    let least = number_back late.least (omega (arith, kept.least)) in
    let from = transition_back net late.from rules h.path.inside in
    let first = word64_back late.first kept.first in
    let steps = steps_back net (length (steps_words net late.from late.first late.steps)) late.from late.first late.steps _ _ rules h.path.walks.2 (omega arith) in
    ⊎_elim
    (λ (e : (late.start == 0) ≡ true).
    let none : 0 ≡ late.start = sym (eqb-true late.start 0 e) in
    record {
      lines = rw e (and_from _ _ (late_is_line net late rules h) (and_from _ _ (path_is_line net late rules h) refl));
      back = rw e (λ i. record { transition = transition i; number = number i; due = due i; least = least i; start = none i; from = from i; first = first i; steps = steps i });
    })
    (λ (e : (late.start == 0) ≡ false).
    let start = word64_back late.start kept.start in
    let line : is_line (codes "from" ∷ codes "date" ∷ decimal late.start ∷ []) ≡ true = rw (decimal_is_word late.start) refl in
    record {
      lines = rw e (and_from _ _ (late_is_line net late rules h) (and_from _ _ line (and_from _ _ (path_is_line net late rules h) refl)));
      back = rw e (λ i. record { transition = transition i; number = number i; due = due i; least = least i; start = start i; from = from i; first = first i; steps = steps i });
    })
    (cases_Bool (late.start == 0))

pub late_read : (late : Option LateLists) → IsLateKept late → (net : NetLists) → IsNet net → IsLatePlanTold net late → IsRead net (late_lines net late) (Late late)
late_read None kept net rules h = absurd h
late_read (Some late) kept net rules h =
    let read = late_back net late rules h kept in
    record { words = read.lines; back = ap (λ (l : LateLists). Late (Some l)) read.back }
