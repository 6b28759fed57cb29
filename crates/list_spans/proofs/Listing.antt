-- The dates that input lists give: they are from 0 on, never fall, and stay within a bound.
use Rattle.std.proofs.Common.{ℕ, zero, suc, ◌+◌, ◌-◌, ◌*◌, ◌<◌, ◌≤◌, ◌≡◌, List, [], ◌∷◌, length, get_or, Option, Some, None, ap, ◌∙◌, arith, ⊎_elim}
use Rattle.std.specs.Prelude.{pos, All, IfSome, slice_get}
use Rattle.std.specs.List.Sorted.{IsNonDecreasing}
use Rattle.std.proofs.lemmas.Bool.{cases_lt}
use Rattle.std.proofs.lemmas.Int.{ints}
use Rattle.dioid.specs.declared.dates.Date.TheVariants.{At}
use Rattle.dioid.specs.Dates.{IsAtMostDate, delayed}
use Rattle.dioid.proofs.DateOrder.{never_last, delayed_rises}
use Rattle.teg_net.specs.declared.entries.Again.{Again}
use Rattle.teg_net.specs.declared.entries.InputList.{InputList}
use Rattle.teg_net.specs.Limits.{greatest_input_date}
use Rattle.teg_net.specs.Nets.{NetLists, IsInputOf, ListGoesOn, EndsOrGoesOn}
use Rattle.teg_net.specs.Inputs.{moved_by, GoOnBy, date_by_list, list_date}
use Rattle.teg_net.proofs.InputDates.{IsInputDates-list_date, list_date-most}
use Rattle.settled_laws.specs.teg_model.DateBounds.{IsDateWithin}
use Rattle.settled_laws.specs.teg_model.Datings.{as_date}
use Rattle.list_spans.proofs.Spanning.{moved_date}
use Rattle.settled_laws.proofs.teg_model_proofs.ListDates.{as_date_within}

-- what holds of all elements holds of one that is got
pub got_rules : {X : Type 0} (P : X → Type 0) (xs : List X) (i : ℕ) → All P xs → IfSome (slice_get xs i) P
got_rules P [] i h = tt
got_rules P (x ∷ xs) zero h = h 0 x (omega arith)
got_rules P (x ∷ xs) (suc i) h = got_rules P xs i (λ j d l. h (suc j) d (omega arith))

as_date_late : (o : Option ℕ) → IsAtMostDate (At (pos 0)) (as_date o)
as_date_late None = tt
as_date_late (Some d) = omega (arith, ints)

inside : (dates : List ℕ) (u : ℕ → Option ℕ) (k : ℕ) → ((j : ℕ) → 1 ≤ j → j ≤ length dates → u j ≡ Some (get_or dates (j - 1) 0)) → IsNonDecreasing dates → 1 ≤ k → k + 1 ≤ length dates
    → IsAtMostDate (as_date (u k)) (as_date (u (k + 1)))
inside dates u k own s o l =
    let low = own k o (omega arith) in
    let high = own (k + 1) (omega arith) l in
    let up = s (k - 1) (k + 1 - 1) 0 (omega arith) (omega arith) in
    rw (low, high) (omega (arith, ints, up))

-- past its dates the list goes on, and does not fall where it joins
climbs_on : (dates : List ℕ) (a : Again) (u : ℕ → Option ℕ) → ((j : ℕ) → 1 ≤ j → j ≤ length dates → u j ≡ Some (get_or dates (j - 1) 0))
    → IsNonDecreasing dates → ListGoesOn dates a → GoOnBy (length dates) (Some a) u
    → (n k : ℕ) → k ≤ n → 1 ≤ k → IsAtMostDate (as_date (u k)) (as_date (u (k + 1)))
climbs_on dates a u own s h g zero k l o = absurd (omega arith)
climbs_on dates a u own s h g (suc n) k l o =
    let one = h.some in
    let enough = h.enough in
    ⊎_elim
    (λ (far : length dates < k).
    let j : ℕ = k - a.every in
    let is : k + 1 - a.every ≡ j + 1 = omega arith in
    let low : as_date (u k) ≡ delayed a.gap (as_date (u j)) = ap as_date (g k far) ∙ moved_date a.gap (u j) in
    let high : as_date (u (k + 1)) ≡ delayed a.gap (as_date (u (j + 1))) = ap as_date (g (k + 1) (omega arith) ∙ ap (λ i. moved_by a.gap (u i)) is) ∙ moved_date a.gap (u (j + 1)) in
    rw (low, high) (delayed_rises a.gap (as_date (u j)) (as_date (u (j + 1))) (climbs_on dates a u own s h g n j (omega arith) (omega arith))))
    (λ (near : k ≤ length dates).
    ⊎_elim
    (λ (within : k < length dates). inside dates u k own s o (omega arith))
    (λ (last : length dates ≤ k).
    let back : ℕ = k + 1 - a.every in
    let low = own k o near in
    let high : u (k + 1) ≡ moved_by a.gap (Some (get_or dates (back - 1) 0)) = g (k + 1) (omega arith) ∙ ap (moved_by a.gap) (own back (omega arith) (omega arith)) in
    let here : k - 1 ≡ length dates - 1 = omega arith in
    let there : back - 1 ≡ length dates - a.every = omega arith in
    let joins : get_or dates (k - 1) 0 ≤ get_or dates (back - 1) 0 + a.gap = rw (here, there) h.joins in
    rw (low, high) (omega (arith, ints, joins)))
    (cases_lt k (length dates)))
    (cases_lt (length dates) k)

climbs_by : (dates : List ℕ) (o : Option Again) (u : ℕ → Option ℕ)
    → ((j : ℕ) → 1 ≤ j → j ≤ length dates → u j ≡ Some (get_or dates (j - 1) 0)) → IsNonDecreasing dates → EndsOrGoesOn dates o → GoOnBy (length dates) o u
    → (k : ℕ) → 1 ≤ k → IsAtMostDate (as_date (u k)) (as_date (u (k + 1)))
climbs_by dates None u own s h g k o =
    ⊎_elim
    (λ (far : length dates < k + 1). rw (g (k + 1) far) (never_last (as_date (u k))))
    (λ (near : k + 1 ≤ length dates). inside dates u k own s o near)
    (cases_lt (length dates) (k + 1))
climbs_by dates (Some a) u own s h g k o = climbs_on dates a u own s h g k k (omega arith) o

pub dates_climb : (net : NetLists) (o : Option InputList) → IfSome o (IsInputOf net) → (k : ℕ) → 1 ≤ k → IsAtMostDate (as_date (date_by_list o k)) (as_date (date_by_list o (k + 1)))
dates_climb net None h k o = omega (arith, ints)
dates_climb net (Some l) h k o =
    let is = IsInputDates-list_date l h.again in
    climbs_by l.dates l.again (list_date l.dates l.again) is.listed h.never_falls h.again is.past k o

pub dates_late : (o : Option InputList) (k : ℕ) → IsAtMostDate (At (pos 0)) (as_date (date_by_list o k))
dates_late o k = as_date_late (date_by_list o k)

pub dates_within : (net : NetLists) (o : Option InputList) (k : ℕ) → IfSome o (IsInputOf net) → IsDateWithin (greatest_input_date * (k + 1)) (as_date (date_by_list o k))
dates_within net None k h = (omega (arith, ints), omega (arith, ints))
dates_within net (Some l) k h = as_date_within (list_date l.dates l.again k) (greatest_input_date * (k + 1)) (list_date-most l.dates l.again k h.dates_in h.again)
