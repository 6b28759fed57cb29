-- For how many turns dates stay in order.
use Rattle.std.proofs.Common.{ℕ, ℤ, pos, ◌+◌, ◌<◌, ◌≤◌, ◌≡◌, ◌+ℤ◌, List, length, get_or, subst, ◌∙◌, arith, ⊎_elim, inr}
use Rattle.std.proofs.lemmas.List.{get_or_default}
use Rattle.std.specs.Prelude.{◌*ℤ◌, ◌/◌, ◌<ℤ◌, ◌≤ℤ◌}
use Rattle.std.proofs.lemmas.Bool.{cases_lt}
use Rattle.std.proofs.lemmas.Int.{ints}
use Rattle.dioid.specs.declared.dates.Date.{Date}
use Rattle.dioid.specs.declared.dates.Date.TheVariants.{Early, At, Never}
use Rattle.dioid.specs.Dates.{move}
use Rattle.dioid.proofs.DateOrder.{never_last}
use Rattle.date_rows.specs.DateTables.{TableDates}
use Rattle.jump_laws.proofs.Turns.{none_falls_on, turns_read}
use Rattle.teg_net.specs.Nets.{NetLists}
use Rattle.jump_laws.specs.Runs.{Run}
use Rattle.run_rows.specs.TurnsLeft.{InTimeFor, IsInLastTurn, IsReleaseInTime, IsWayInTime}

-- for fewer turns too
pub fewer_turns : (q r : ℕ) (f g : ℤ) (a b : Date) → r ≤ q → InTimeFor q f g a b → InTimeFor r f g a b
fewer_turns q r f g a b l h = record { at = λ j o m. h.at j o (omega (arith, l, m)) }

-- for no turns
pub no_turns : (f g : ℤ) (a b : Date) → InTimeFor 0 f g a b
no_turns f g a b = record { at = λ j o m. absurd (omega (arith, o, m)) }

-- for ever where the step of the first is no greater
pub ever_in_time : (q slack rise : ℕ) (f g a b : ℤ) → b ≡ a +ℤ pos slack → g ≡ f +ℤ pos rise → InTimeFor q f g (At a) (At b)
ever_in_time q slack rise f g a b b_is g_is = record { at = λ j o n. none_falls_on (At a) (At b) f g j (omega (arith, ints, b_is)) (inr (inr (omega (arith, ints, g_is)))) }

-- for as many as the gain goes into the slack
pub slack_in_time : (q slack gain : ℕ) (f g a b : ℤ) → b ≡ a +ℤ pos slack → f ≡ g +ℤ pos gain → 1 ≤ gain → q ≤ slack / gain → InTimeFor q f g (At a) (At b)
slack_in_time q slack gain f g a b b_is f_is some l = record { at = λ j o m. rw (b_is, f_is) ((turns_read a g slack gain j some).1 (omega (arith, l, m))) }

-- before Never, and from Early on
pub never_in_time : (q : ℕ) (f g : ℤ) (a : Date) → InTimeFor q f g a Never
never_in_time q f g a = record { at = λ j o m. never_last (move (pos j *ℤ f) a) }

pub early_in_time : (q : ℕ) (f g : ℤ) (b : Date) → InTimeFor q f g Early b
early_in_time q f g b = record { at = λ j o m. tt }

-- not where so many of its steps lead the first past the second
pub late_by_turns : (q : ℕ) (f g a b : ℤ) → 1 ≤ q → (b +ℤ (pos q *ℤ g)) <ℤ (a +ℤ (pos q *ℤ f)) → InTimeFor q f g (At a) (At b) → ⊥
late_by_turns q f g a b o late h = let there : (a +ℤ (pos q *ℤ f)) ≤ℤ (b +ℤ (pos q *ℤ g)) = h.at q o (omega arith) in omega (arith, ints, late, there)

-- at one number more of the last turn
pub next_in_time : (rows : TableDates) (turn number q r : ℕ) (f g : ℕ → ℤ) (a b : ℕ → Date) → r ≤ q
    → ((k : ℕ) → IsInLastTurn rows turn k → k < number → InTimeFor q (f k) (g k) (a k) (b k))
    → InTimeFor r (f number) (g number) (a number) (b number)
    → (k : ℕ) → IsInLastTurn rows turn k → k < number + 1 → InTimeFor r (f k) (g k) (a k) (b k)
next_in_time rows turn number q r f g a b l h now k i m =
    ⊎_elim
    (λ (n : k < number). fewer_turns q r (f k) (g k) (a k) (b k) l (h k i n))
    (λ (n : number ≤ k). let is : k ≡ number = omega (arith, m, n) in rw is now)
    (cases_lt k number)

-- for fewer turns too
pub fewer_way : (q r after : ℕ) (rows : TableDates) (last : Run) (from to tokens hold : ℕ) → r ≤ q → IsWayInTime q after rows last from to tokens hold → IsWayInTime r after rows last from to tokens hold
fewer_way q r after rows last from to tokens hold l h = record { each = λ k i. fewer_turns q r _ _ _ _ l (h.each k i) }

pub fewer_release : (q r after : ℕ) (net : NetLists) (rows : TableDates) (last : Run) (t : ℕ) → r ≤ q → IsReleaseInTime q after net rows last t → IsReleaseInTime r after net rows last t
fewer_release q r after net rows last t l h = record { each = λ k i. fewer_turns q r _ _ _ _ l (h.each k i) }

-- a fact of each element before an index, and of that one
pub next_all : {X : Type 0} (P : X → Type 0) (xs : List X) (n : ℕ) (x : X) → n < length xs → x ≡ get_or xs n x → P x → ((i : ℕ) (d : X) → i < n → P (get_or xs i d))
    → (i : ℕ) (d : X) → i < n + 1 → P (get_or xs i d)
next_all P xs n x l is p h i d m =
    ⊎_elim
    (λ (q : i < n). h i d q)
    (λ (q : n ≤ i). let here : i ≡ n = omega (arith, m, q) in rw here (subst P (is ∙ get_or_default xs n x d l) p))
    (cases_lt i n)
