-- What solves the backward equations of a live net are its latest dates: by induction on what is left of number and rank.
use Rattle.std.proofs.Common.{ℕ, zero, suc, ◌+◌, ◌*◌, ◌<◌, ◌≤◌, ◌≡◌, ◌≢◌, length, refl, sym, ap, subst, ◌∙◌, arith, ⊎_elim}
use Rattle.std.specs.Prelude.{pos, ◌+ℤ◌}
use Rattle.std.proofs.Math.Nat.{mul-le-mul_right}
use Rattle.std.proofs.lemmas.Bool.{cases_lt}
use Rattle.teg_model.specs.dioid.declared.dates.Date.{Date}
use Rattle.teg_model.specs.dioid.declared.dates.Date.TheVariants.{Early, At, Never}
use Rattle.teg_model.specs.dioid.Dates.{delayed}
use Rattle.teg_model.proofs.dioid_proofs.DateOrder.{at_most_is}
use Rattle.teg_model.specs.teg_net.declared.entries.PlaceId.{PlaceId}
use Rattle.teg_model.specs.teg_net.declared.entries.Place.{Place}
use Rattle.teg_model.specs.teg_net.Nets.{NetLists}
use Rattle.teg_model.specs.teg_net.Circuits.{no_place, place_at}
use Rattle.teg_model.specs.LiveRanks.{AreRanks, HasEndsInRange}
use Rattle.teg_model.proofs.LiveRanks.{live_is_ranked}
use Rattle.teg_model.proofs.DateFunctions.{Dating}
use Rattle.due_laws.specs.LatestDates.{IsDateToDue}
use Rattle.latest_laws.specs.BackwardEquations.{AreInTime, IsDueThen, IsHoldBefore}
use Rattle.latest_laws.specs.BackwardSolutions.{SolveBackwards, SolutionsAreLatestDates}
use Rattle.due_laws.proofs.LatestDates.{Dues, due_here, due_by, due_next}
use Rattle.latest_laws.proofs.BackwardEquations.{in_time_keeps, in_time_keeps_dues, below_walk}

-- a place leads to a greater number, or to the same and a higher rank
pub climbs : (bound k m r s : ℕ) → r < bound → (m ≡ 0 → r < s) → k * bound + r < (k + m) * bound + s
climbs bound k zero r s b h =
    let e : k + 0 ≡ k = omega arith in
    rw e (omega (arith, h refl))
climbs bound k (suc m) r s b h =
    let product : (k + suc m) * bound ≡ k * bound + (m * bound + bound) = grind arith in
    omega (arith, product, b)

-- rows up to the last are below the row past it
pub rows_below : (bound last k r : ℕ) → k ≤ last → r < bound → k * bound + r < (last + 1) * bound
rows_below bound last k r l b =
    let rows : k * bound ≤ last * bound = mul-le-mul_right bound l in
    let more : (last + 1) * bound ≡ last * bound + bound = grind arith in
    omega (arith, rows, more, b)

-- a number past the last, where the rows are
past : (bound last k r : ℕ) → r < bound → (last + 1) * bound ≤ k * bound + r → last < k
past bound last k r b l =
    ⊎_elim
    (λ (q : last < k). q)
    (λ (q : k ≤ last). let low = rows_below bound last k r q b in absurd (omega (arith, low, l)))
    (cases_lt last k)

-- one row on
pub row_on : (bound k : ℕ) → (k + 1) * bound ≡ k * bound + bound
row_on bound k = grind arith

-- what is never after a hold is never
pub not_delayed : (h : ℕ) (d : Date) → delayed h d ≡ Never → d ≡ Never
not_delayed h Early e = absurd (at_most_is Never Early (sym e))
not_delayed h (At x) e = absurd (at_most_is Never (At (x +ℤ pos h)) (sym e))
not_delayed h Never e = refl

-- where a date is not Never, a walk to a due firing has it
attained :
    (net : NetLists) (due : Dues) (last : ℕ) (y : Dating) (bound : ℕ) (r : ℕ → ℕ) → HasEndsInRange net → AreRanks net.places bound r → SolveBackwards net due last y
    → (n t k : ℕ) → (last + 1) * bound ≤ n + (k * bound + r t) → t < length net.transitions → 1 ≤ k → y t k ≢ Never → IsDateToDue net due t k (y t k)
attained net due last y bound r ok rr h zero t k m in' o e = absurd (e (h.never t k in' (past bound last k (r t) (rr.below t) (omega (arith, m)))))
attained net due last y bound r ok rr h (suc n) t k m in' o e =
    ⊎_elim
    (λ (a : IsDueThen due t k (y t k)). subst (IsDateToDue net due t k) (sym a.2) (due_here net due t k a.0 a.1))
    (λ b.
    ⊎_elim
    (λ (c : y t k ≡ y t (k + 1)).
    let row = row_on bound k in
    let some = rr.below t in
    let rest : IsDateToDue net due t (k + 1) (y t (k + 1)) = attained net due last y bound r ok rr h n t (k + 1) (omega (arith, row, some, m)) in' (omega arith) (λ z. e (c ∙ z)) in
    due_next net due t k (y t k) (subst (IsDateToDue net due t (k + 1)) (sym c) rest))
    (λ (c : IsHoldBefore net y t k (y t k)).
    let p : PlaceId = c.0 in
    let place : Place = place_at net p in
    let j : ℕ = k + place.tokens in
    let up = climbs bound k place.tokens (r place.from.index) (r place.to.index) (rr.below place.from.index) (rr.rise p.index no_place c.1) in
    let same : r place.from.index ≡ r t = ap r c.2 in
    let rest : IsDateToDue net due place.to.index j (y place.to.index j) =
    attained net due last y bound r ok rr h n place.to.index j (omega (arith, up, same, m)) (ok p.index no_place c.1).1 (omega arith) (λ z. e (not_delayed place.hold (y t k) (c.3 ∙ z))) in
    let there : IsDateToDue net due place.to.index j (delayed place.hold (y t k)) = subst (IsDateToDue net due place.to.index j) (sym c.3) rest in
    subst (λ s. IsDateToDue net due s k (y t k)) c.2 (due_by net due p k (y t k) c.1 there))
    b)
    (h.equations t k in' o).one

pub solutions_are_latest : SolutionsAreLatestDates
solutions_are_latest net ok live due last y h t k in' o =
    let ends = ok in
    let ranked = live_is_ranked net ends live in
    let in_time : AreInTime net due y = λ s j m one. (h.equations s j m one).in_time in
    record {
      attained = attained net due last y ranked.0 ranked.1 ends ranked.2 h ((last + 1) * ranked.0) t k (omega arith) in' o;
      least = λ d w. below_walk net due y ends (in_time_keeps net due y ends in_time) (in_time_keeps_dues net due y in_time) t k d in' o w;
    }
