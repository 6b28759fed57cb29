-- Lines that keep dates and due dates apart, and what they tell.
use Rattle.std.proofs.Common.{ℕ, zero, suc, ◌≡◌, ◌<◌, ◌≤◌, ◌+◌, ◌-◌, ◌*◌, ◌/◌, ◌%◌, ◌∙◌, Some, pos, length, refl, sym, ap, subst, arith, ⊎_elim}
use Rattle.std.specs.Prelude.{Option, None, IfNone, IfSome}
use Rattle.std.specs.Int.{◌∣◌}
use Rattle.std.proofs.lemmas.Bool.{cases_lt}
use Rattle.std.proofs.lemmas.Int.{ints}
use Rattle.std.proofs.lemmas.Nat.{div-add-mod', div_below, mod_below, mul-le}
use Rattle.std.proofs.Math.Nat.{div-mul_cancel, eq-or-lt_of_le, mod-lt, mod-mod_of_dvd, mul-le-mul_left}
use Rattle.dioid.specs.declared.dates.Date.{Date}
use Rattle.dioid.specs.declared.dates.Date.TheVariants.{At}
use Rattle.dioid.specs.Dates.{move}
use Rattle.dioid.proofs.Moves.{at_inj}
use Rattle.forever_laws.proofs.GoingOn.{due_number, due_is, due_only, due_again}
use Rattle.forever_laws.specs.settled_laws.SettledForms.{SettledForm, settled_date}
use Rattle.endless_due.specs.declared.row.EndlessRow.{EndlessRow}
use Rattle.endless_due.specs.EndlessRows.{IsEndlessRow, row_due}
use Rattle.forever_laws.specs.Late.{NoneLateTo, NoneLate}
use Rattle.teg_net.specs.Nets.{NetLists}
use Rattle.teg_forever.specs.declared.leads.Class.{Class}
use Rattle.teg_forever.specs.declared.settled_row.Cycle.{Cycle}
use Rattle.teg_forever.specs.LateFirings.{AreApartAfter, AreDatesUnder, AreDuesOver, GoesOnBySteps, IsClassOf, IsClimbing, NoneLateInClass, NoneLatePast, RisesIn, member}
use Rattle.teg_forever.proofs.Cycles.{rises_times}

-- ---- numbers

pub distributes : (a b c : ℕ) → a * (b + c) ≡ a * b + a * c
distributes a b c = grind arith

-- a number below a line is no greater than one above another, which is no lower after so many places and rises no slower
pub keep_apart : (firings rise every gap under over places date due m i q j p : ℕ) → 1 ≤ firings → 1 ≤ every → places ≤ m
    → m ≡ q * firings + i → m ≡ p * every + j
    → firings * date + rise * firings ≤ under + rise * i → over + gap * j ≤ every * due + gap * every
    → every * under + firings * (gap * every) + places * (rise * every) ≤ firings * over + rise * firings * every + places * (firings * gap)
    → rise * every ≤ firings * gap
    → date + q * rise ≤ due + p * gap
keep_apart firings rise every gap under over places date due m i q j p one two far first second low high start slope =
    let z : ℕ = date + q * rise in
    let d : ℕ = due + p * gap in
    let up : rise * m ≡ rise * (q * firings) + rise * i = ap (λ (n : ℕ). rise * n) first ∙ distributes rise (q * firings) i in
    let on : gap * m ≡ gap * (p * every) + gap * j = ap (λ (n : ℕ). gap * n) second ∙ distributes gap (p * every) j in
    let dates : firings * z ≡ firings * date + rise * (q * firings) = grind arith in
    let dues : every * d ≡ every * due + gap * (p * every) = grind arith in
    let below : firings * z + rise * firings ≤ under + rise * m = omega arith in
    let above : over + gap * m ≤ every * d + gap * every = omega arith in
    let left : every * (firings * z + rise * firings) ≤ every * (under + rise * m) = mul-le-mul_left {m = firings * z + rise * firings} {n = under + rise * m} every below in
    let right : firings * (over + gap * m) ≤ firings * (every * d + gap * every) = mul-le-mul_left {m = over + gap * m} {n = every * d + gap * every} firings above in
    let open_above : firings * (every * d + gap * every) ≡ firings * (every * d) + firings * (gap * every) = grind arith in
    let open_below : every * (firings * z + rise * firings) ≡ every * (firings * z) + rise * firings * every = grind arith in
    let open_left : every * (under + rise * m) ≡ every * under + rise * every * m = grind arith in
    let open_right : firings * (over + gap * m) ≡ firings * over + firings * gap * m = grind arith in
    let more : ℕ = m - places in
    let whole : m ≡ places + more = omega (arith, far) in
    let slopes : more * (rise * every) ≤ more * (firings * gap) = mul-le-mul_left {m = rise * every} {n = firings * gap} more slope in
    let turned : rise * every * m ≡ places * (rise * every) + more * (rise * every) = grind arith in
    let turned' : firings * gap * m ≡ places * (firings * gap) + more * (firings * gap) = grind arith in
    let both : every * (firings * z) ≤ firings * (every * d) = omega arith in
    ⊎_elim
    (λ (late : d < z).
    let some : 1 ≤ every * firings = omega (arith, mul-le 1 1 every firings two one) in
    let next : (every * firings) * (d + 1) ≤ (every * firings) * z = mul-le-mul_left {m = d + 1} {n = z} (every * firings) (omega (arith, late)) in
    let same : (every * firings) * z ≡ every * (firings * z) = grind arith in
    let same' : (every * firings) * (d + 1) ≡ firings * (every * d) + every * firings = grind arith in
    absurd (omega arith))
    (λ (not_late : z ≤ d). not_late)
    (cases_lt d z)

-- lines are apart after so many places as make up for what is missing by what is gained
pub apart_after : (r : EndlessRow) (cycle : Cycle) (under over dates dues places : ℕ) → dates ≡ r.every * under + cycle.firings * (r.gap * r.every)
    → dues ≡ cycle.firings * over + cycle.rise * cycle.firings * r.every → cycle.rise * r.every ≤ cycle.firings * r.gap
    → dates - dues ≤ places * (cycle.firings * r.gap - cycle.rise * r.every) → AreApartAfter r cycle under over places
apart_after r cycle under over dates dues places first second slope enough =
    let steep : ℕ = cycle.rise * r.every in
    let fast : ℕ = cycle.firings * r.gap in
    let whole : fast ≡ steep + (fast - steep) = omega (arith, slope) in
    let parts : places * fast ≡ places * steep + places * (fast - steep) = ap (λ (n : ℕ). places * n) whole ∙ distributes places steep (fast - steep) in
    record { start = omega (arith, first, second, enough, parts); slope = slope }

-- a place among those of a period, by the class of the number whose place it is
pub member_of : (class : Class) (m period : ℕ) → 1 ≤ period → class.rest < class.divisor → class.divisor ∣ period → m % class.divisor ≡ class.rest
    → (m % period / class.divisor < period / class.divisor) × (member class (m % period / class.divisor) ≡ m % period)
member_of class m period one low divides rest =
    let g : ℕ = class.divisor in
    let i : ℕ = m % period in
    let within : i < period = mod-lt m one in
    let whole : period / g * g ≡ period = div-mul_cancel g divides in
    let parts : i / g * g + i % g ≡ i = div-add-mod' i g in
    let same : i % g ≡ class.rest = mod-mod_of_dvd g m divides ∙ rest in
    (div_below i g (period / g) (omega (arith, low)) (omega (arith, within, whole)), omega (arith, parts, same))

-- ---- the lines

-- one date more is not above the line
pub under_more : (f : SettledForm) (t past : ℕ) (cycle : Cycle) (class : Class) (start next number date : ℕ)
    → ((i z : ℕ) → i < number → settled_date f t (past + 1 + member class i) ≡ At (pos z) → cycle.firings * z + cycle.rise * cycle.firings ≤ start + cycle.rise * member class i)
    → settled_date f t (past + 1 + member class number) ≡ At (pos date) → start ≤ next → cycle.firings * date + cycle.rise * cycle.firings ≤ next + cycle.rise * member class number
    → (i z : ℕ) → i < number + 1 → settled_date f t (past + 1 + member class i) ≡ At (pos z) → cycle.firings * z + cycle.rise * cycle.firings ≤ next + cycle.rise * member class i
under_more f t past cycle class start next number date old here up low i z l e = ⊎_elim
    (λ (last : i ≡ number).
    let there : settled_date f t (past + 1 + member class number) ≡ At (pos z) = subst (λ (n : ℕ). settled_date f t (past + 1 + member class n) ≡ At (pos z)) last e in
    let both : At (pos date) ≡ At (pos z) = sym here ∙ there in
    let same : date ≡ z = cc in
    subst (λ (n : ℕ). cycle.firings * z + cycle.rise * cycle.firings ≤ next + cycle.rise * member class n) (sym last)
    (subst (λ (n : ℕ). cycle.firings * n + cycle.rise * cycle.firings ≤ next + cycle.rise * member class number) same low))
    (λ (before : i < number). let kept = old i z before e in omega arith)
    (eq-or-lt_of_le {n = i} {m = number} (omega arith))

-- one due date more is not below it
pub over_more : (r : EndlessRow) (past : ℕ) (class : Class) (start next number due : ℕ)
    → ((j d : ℕ) → j < number → row_due r (past + 1 + member class j) ≡ Some d → start + r.gap * member class j ≤ r.every * d + r.gap * r.every)
    → row_due r (past + 1 + member class number) ≡ Some due → next ≤ start → next + r.gap * member class number ≤ r.every * due + r.gap * r.every
    → (j d : ℕ) → j < number + 1 → row_due r (past + 1 + member class j) ≡ Some d → next + r.gap * member class j ≤ r.every * d + r.gap * r.every
over_more r past class start next number due old here down high j d l e = ⊎_elim
    (λ (last : j ≡ number).
    let there : row_due r (past + 1 + member class number) ≡ Some d = subst (λ (n : ℕ). row_due r (past + 1 + member class n) ≡ Some d) last e in
    let both : Some due ≡ Some d = sym here ∙ there in
    let same : due ≡ d = cc in
    subst (λ (n : ℕ). next + r.gap * member class n ≤ r.every * d + r.gap * r.every) (sym last)
    (subst (λ (n : ℕ). next + r.gap * member class number ≤ r.every * n + r.gap * r.every) same high))
    (λ (before : j < number). let kept = old j d before e in omega arith)
    (eq-or-lt_of_le {n = j} {m = number} (omega arith))

-- ---- due dates

-- so many turns on
pub due_times : (net : NetLists) (r : EndlessRow) → IsEndlessRow net r → (n k : ℕ) → length r.dates < k + r.every → due_number r (k + n * r.every) ≡ due_number r k + n * r.gap
due_times net r ok zero k l = let on : k + zero * r.every ≡ k = omega arith in ap (due_number r) on ∙ omega arith
due_times net r ok (suc n) k l =
    let on : k + suc n * r.every ≡ (k + n * r.every) + r.every = grind arith in
    let before = due_times net r ok n k l in
    let step = due_again net r ok (k + n * r.every) (omega arith) in
    let sum : suc n * r.gap ≡ n * r.gap + r.gap = grind arith in
    ap (due_number r) on ∙ omega arith

-- ---- both

pub none_past : (net : NetLists) (r : EndlessRow) → IsEndlessRow net r → (f : SettledForm) → IsClimbing f r.transition.index → GoesOnBySteps f r.transition.index
    → (past : ℕ) (cycle : Cycle) (class : Class) (under over places : ℕ) → f.after ≤ past → length r.dates ≤ past + r.every → 1 ≤ cycle.firings
    → RisesIn f r.transition.index cycle.firings cycle.rise → IsClassOf cycle.firings r.every class
    → AreDatesUnder f r.transition.index past cycle class under → AreDuesOver r past class over
    → AreApartAfter r cycle under over places → NoneLateInClass (settled_date f) r past places class
none_past net r ok f climbing steps past cycle class under over places after listed one rises split low high lines k due least far rest late =
    let t : ℕ = r.transition.index in
    let firings : ℕ = cycle.firings in
    let rise : ℕ = cycle.rise in
    let m : ℕ = k - past - 1 in
    let every_one : 1 ≤ r.every = ok.goes_on.some in
    let cycles = div-add-mod' m firings in
    let turns = div-add-mod' m r.every in
    let in_cycle = member_of class m firings one split.low split.of_cycle rest in
    let in_turn = member_of class m r.every every_one split.low split.of_turn rest in
    let i : ℕ = member class (m % firings / class.divisor) in
    let j : ℕ = member class (m % r.every / class.divisor) in
    let q : ℕ = m / firings in
    let p : ℕ = m / r.every in
    let first_is : i ≡ m % firings = in_cycle.1 in
    let second_is : j ≡ m % r.every = in_turn.1 in
    let by_first : m ≡ q * firings + i = omega (arith, cycles, first_is) in
    let by_second : m ≡ p * r.every + j = omega (arith, turns, second_is) in
    let by_cycles : (past + 1 + i) + q * firings ≡ k = omega (arith, by_first, far) in
    let by_turns : (past + 1 + j) + p * r.every ≡ k = omega (arith, by_second, far) in
    let here = climbing.numbers (past + 1 + i) (omega arith) in
    let date : ℕ = here.0 in
    let moved : settled_date f t ((past + 1 + i) + q * firings) ≡ move (pos (q * rise)) (At (pos date)) =
    rises_times f t steps firings rise rises q (past + 1 + i) (omega arith) ∙ ap (move (pos (q * rise))) here.1 in
    let comes : At (pos least) ≡ move (pos (q * rise)) (At (pos date)) = sym late.comes ∙ ap (settled_date f t) (sym by_cycles) ∙ moved in
    let number = at_inj _ _ comes in
    let is : least ≡ date + q * rise = omega (arith, ints) in
    let first : ℕ = due_number r (past + 1 + j) in
    let again = due_times net r ok p (past + 1 + j) (omega arith) in
    let due_here : due ≡ due_number r k = due_only r k due late.is_due in
    let due_there : due_number r ((past + 1 + j) + p * r.every) ≡ due_number r k = ap (due_number r) by_turns in
    let apart = keep_apart firings rise r.every r.gap under over places date first m i q j p one every_one (omega (arith, far)) by_first by_second
    (low (m % firings / class.divisor) date in_cycle.0 here.1) (high (m % r.every / class.divisor) first in_turn.0 (due_is r (past + 1 + j))) lines.start lines.slope in
    let too_late = late.late in
    omega arith

-- where none of any class is late after so many places, none is
pub none_of_classes : (x : ℕ → ℕ → Date) (r : EndlessRow) (past places divisor : ℕ) → 0 < divisor
    → ((rest : ℕ) → rest < divisor → NoneLateInClass x r past places (record { divisor = divisor; rest = rest })) → NoneLatePast x r (past + places)
none_of_classes x r past places divisor some each k due least far late = each ((k - past - 1) % divisor) (mod_below (k - past - 1) divisor some) k due least far refl late

-- nor after more places
pub none_after_more : (x : ℕ → ℕ → Date) (r : EndlessRow) (past places more : ℕ) (class : Class) → places ≤ more → NoneLateInClass x r past places class
    → NoneLateInClass x r past more class
none_after_more x r past places more class no_less none k due least far = none k due least (omega (arith, far, no_less))

-- none late up to a number and none past it
pub none_both : (x : ℕ → ℕ → Date) (r : EndlessRow) (past : ℕ) → NoneLateTo x r past → NoneLatePast x r past → NoneLate x r
none_both x r past low high k due least late = ⊎_elim (λ (far : past < k). high k due least far late) (λ (near : k ≤ past). low k due least near late) (cases_lt past k)

-- ---- what may be none

pub none_map : {T : Type 0} (o : Option T) {P Q : Type 0} → (P → Q) → IfNone o P → IfNone o Q
none_map None f h = f h
none_map (Some x) f h = h

pub some_map : {T : Type 0} (o : Option T) {P Q : T → Type 0} → ((x : T) → P x → Q x) → IfSome o P → IfSome o Q
some_map None f h = h
some_map (Some x) f h = f x h
