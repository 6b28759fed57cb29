-- Runs of turns tell the dates of their numbers.
use Rattle.std.proofs.Common.{ℕ, ℤ, zero, suc, pos, ◌+◌, ◌-◌, ◌*◌, ◌/◌, ◌%◌, ◌<◌, ◌≤◌, ◌≡◌, ◌+ℤ◌, ◌∷◌, true, false, ltb, leb, List, [], length, get_or, refl, sym, ap, subst, ◌∙◌, arith, ⊎_elim}
use Rattle.std.specs.Prelude.{◌*ℤ◌, All}
use Rattle.std.proofs.lemmas.Bool.{cases_lt}
use Rattle.std.proofs.lemmas.Bool.Decides.{nat_tests}
use Rattle.std.proofs.lemmas.Int.{ints}
use Rattle.std.proofs.Math.Nat.{mul-le-mul_right}
use Rattle.dioid.specs.declared.dates.Date.{Date}
use Rattle.dioid.specs.declared.dates.Date.TheVariants.{Early, At, Never}
use Rattle.dioid.specs.Dates.{IsAtMostDate, move}
use Rattle.dioid.proofs.Moves.{at_inj}
use Rattle.jump_laws.specs.Runs.{Run, IsInRun, kept_step, run_date, IsRunOf, RunsTellDates, JumpsAreRuns, date_by_run, date_by_runs, RunRowsTellDates, FormsReachBack, TurnsAreGathered, RunsKeepDues}
use Rattle.jump_laws.proofs.Turns.{turns_on, one_more, between_turns}

-- where a number of a run stands in its first turn, some turns back
found_in : (first turn turns k : ℕ) → 1 ≤ turn → first ≤ k → k < first + turns * turn
    → ((k - first) % turn < turn) × ((k - first) / turn < turns) × ((first + (k - first) % turn) + (k - first) / turn * turn ≡ k)
found_in first turn turns k one far near =
    let j : ℕ = (k - first) / turn in
    let prod : j * turn ≡ turn * j = grind arith in
    let low : (k - first) % turn < turn = omega (arith, one) in
    let sum : (first + (k - first) % turn) + j * turn ≡ k = omega (arith, prod, far, one) in
    let few : j < turns =
    ⊎_elim
    (λ (q : j < turns). q)
    (λ (q : turns ≤ j). let much = mul-le-mul_right turn q in absurd (omega (arith, much, sum, near)))
    (cases_lt j turns) in
    (low, few, sum)

pub tell_dates : RunsTellDates
tell_dates count x r h t k l in_run =
    let found = found_in r.first r.turn r.turns k h.at_least_one in_run.from in_run.to in
    let j : ℕ = (k - r.first) / r.turn in
    let i : ℕ = (k - r.first) % r.turn in
    ap (move (pos j *ℤ kept_step r t i)) (h.dates t i l found.0)
    ∙ (sym (h.moves t i j l found.0 found.1) ∙ ap (x t) found.2)

pub read_off : JumpsAreRuns
read_off count x step r h residues after last before fits moves = record {
  at_least_one = h.at_least_one;
  dates = h.dates;
  moves = λ t i j l m few.
      let more = mul-le-mul_right r.turn few in
      let is : suc j * r.turn ≡ j * r.turn + r.turn = grind arith in
      turns_on (x t) after r.turn last (step t) (λ k. residues t k l) (moves t l)
      (r.first + i) j (omega (arith, before)) (omega (arith, more, is, m, fits))
      ∙ ap (λ z. move (pos j *ℤ z) (x t (r.first + i))) (sym (h.steps t i l m));
}

by_run_in : (r : Run) (other : Date) (t k : ℕ) → IsInRun r k → date_by_run r other t k ≡ run_date r t k
by_run_in r other t k h =
    let from = h.from in
    let to = h.to in
    let a : leb r.first k ≡ true = grind (arith, nat_tests) in
    let b : ltb k (r.first + r.turns * r.turn) ≡ true = grind (arith, nat_tests) in
    rw (a, b) refl

by_run_past : (r : Run) (other : Date) (t k : ℕ) → r.first + r.turns * r.turn ≤ k → date_by_run r other t k ≡ other
by_run_past r other t k h =
    let a : leb r.first k ≡ true = grind (arith, nat_tests) in
    let b : ltb k (r.first + r.turns * r.turn) ≡ false = grind (arith, nat_tests) in
    rw (a, b) refl

by_run_before : (r : Run) (other : Date) (t k : ℕ) → k < r.first → date_by_run r other t k ≡ other
by_run_before r other t k h =
    let a : leb r.first k ≡ false = grind (arith, nat_tests) in
    rw a refl

-- a run that has the number tells its date
pub runs_tell : (count : ℕ) (x : ℕ → ℕ → Date) (rs : List Run) → All (IsRunOf count x) rs → (t k : ℕ) → t < count
    → (i : ℕ) (d : Run) → i < length rs → IsInRun (get_or rs i d) k → date_by_runs rs t k ≡ x t k
runs_tell count x [] h t k l i d m has = absurd (omega (arith, m))
runs_tell count x (r ∷ rs) h t k l zero d m has = by_run_in r (date_by_runs rs t k) t k has ∙ tell_dates count x r (h 0 d (omega arith)) t k l has
runs_tell count x (r ∷ rs) h t k l (suc i) d m has =
    let later : date_by_runs rs t k ≡ x t k = runs_tell count x rs (λ i d m. h (suc i) d (omega (arith, m))) t k l i d (omega (arith, m)) has in
    ⊎_elim
    (λ (q : k < r.first). by_run_before r (date_by_runs rs t k) t k q ∙ later)
    (λ (q : r.first ≤ k).
    ⊎_elim
    (λ (p : k < r.first + r.turns * r.turn).
    let in_run : IsInRun r k = record { from = q; to = p } in
    by_run_in r (date_by_runs rs t k) t k in_run ∙ tell_dates count x r (h 0 d (omega arith)) t k l in_run)
    (λ (p : r.first + r.turns * r.turn ≤ k). by_run_past r (date_by_runs rs t k) t k p ∙ later)
    (cases_lt k (r.first + r.turns * r.turn)))
    (cases_lt k r.first)

pub run_rows_tell : RunRowsTellDates
run_rows_tell count x last rs h t k l o m =
    let (i, d, q, e, has) = h.cover k o m in
    runs_tell count x rs h.runs t k l i d q (subst (λ v. IsInRun v k) (sym e) has)

-- two numbers that are moved by turns and keep one difference at two turns keep it at all
same_part : (a b f g by : ℤ) (m j : ℕ) → a +ℤ (pos m *ℤ f) ≡ (b +ℤ (pos m *ℤ g)) +ℤ by → a +ℤ (pos (suc m) *ℤ f) ≡ (b +ℤ (pos (suc m) *ℤ g)) +ℤ by
    → a +ℤ (pos j *ℤ f) ≡ (b +ℤ (pos j *ℤ g)) +ℤ by
same_part a b f g by m j one two =
    let more : a +ℤ ((pos m *ℤ f) +ℤ f) ≡ (b +ℤ ((pos m *ℤ g) +ℤ g)) +ℤ by = rw (one_more m f, one_more m g) at two in
    let same : f ≡ g = omega (arith, ints, one, more) in
    let first : a ≡ b +ℤ by = subst (λ z. a +ℤ (pos m *ℤ f) ≡ (b +ℤ (pos m *ℤ z)) +ℤ by → a ≡ b +ℤ by) same (λ e. omega (arith, ints, e)) one in
    subst (λ z. a +ℤ (pos j *ℤ f) ≡ (b +ℤ (pos j *ℤ z)) +ℤ by) same (omega (arith, ints, first))

same_parts : (a b : Date) (f g by : ℤ) (m j : ℕ) → move (pos m *ℤ f) a ≡ move by (move (pos m *ℤ g) b) → move (pos (suc m) *ℤ f) a ≡ move by (move (pos (suc m) *ℤ g) b)
    → move (pos j *ℤ f) a ≡ move by (move (pos j *ℤ g) b)
same_parts Early Early f g by m j one two = refl
same_parts Early (At t) f g by m j one two = absurd (cc)
same_parts Early Never f g by m j one two = absurd (cc)
same_parts (At s) Early f g by m j one two = absurd (cc)
same_parts (At s) (At t) f g by m j one two = ap At (same_part s t f g by m j (at_inj _ _ one) (at_inj _ _ two))
same_parts (At s) Never f g by m j one two = absurd (cc)
same_parts Never Early f g by m j one two = absurd (cc)
same_parts Never (At t) f g by m j one two = absurd (cc)
same_parts Never Never f g by m j one two = refl

pub reach_back : FormsReachBack
reach_back dates after turn last step residues moves period by k m a room one two j fits =
    let swap : (i : ℕ) → k + i * turn + period ≡ (k + period) + i * turn = λ i. omega arith in
    let low : (i : ℕ) → k + i * turn + period ≤ last → dates (k + i * turn) ≡ move (pos i *ℤ step k) (dates k) =
    λ i f. turns_on dates after turn last step residues moves k i a (omega (arith, f)) in
    let high : (i : ℕ) → k + i * turn + period ≤ last → dates (k + i * turn + period) ≡ move (pos i *ℤ step (k + period)) (dates (k + period)) =
    λ i f. ap dates (swap i) ∙ turns_on dates after turn last step residues moves (k + period) i (omega (arith, a)) (omega (arith, f)) in
    let wide : (m + 1) * turn ≡ m * turn + turn = grind arith in
    let here : k + m * turn + period ≤ last = omega (arith, room, wide) in
    let first = sym (high m here) ∙ (one ∙ ap (move by) (low m here)) in
    let next = sym (high (m + 1) room) ∙ (two ∙ ap (move by) (low (m + 1) room)) in
    let is : m + 1 ≡ suc m = omega arith in
    let then = subst (λ z. move (pos z *ℤ step (k + period)) (dates (k + period)) ≡ move by (move (pos z *ℤ step k) (dates k))) is next in
    high j fits ∙ (same_parts (dates (k + period)) (dates k) (step (k + period)) (step k) by m j first then ∙ sym (ap (move by) (low j fits)))

pub gathered : TurnsAreGathered
gathered dates after turn last step residues moves many k a fits = turns_on dates after turn last step residues moves k many a fits

pub keep_dues : RunsKeepDues
keep_dues dates due after turn last step gap r s moves goes k q a fits first end j few =
    let more = mul-le-mul_right turn few in
    let own = turns_on dates after turn last step r moves k in
    let its = turns_on due after turn last gap s goes k in
    let at_end : IsAtMostDate (move (pos q *ℤ step k) (dates k)) (move (pos q *ℤ gap k) (due k)) = rw (own q a fits, its q a fits) at end in
    let there = between_turns (dates k) (due k) (step k) (gap k) j q few first at_end in
    rw (own j a (omega (arith, more, fits)), its j a (omega (arith, more, fits))) there
