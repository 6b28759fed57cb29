-- A date that comes too late for due dates without end does so soon.
use Rattle.std.proofs.Common.{ℕ, zero, suc, ◌+◌, ◌-◌, ◌*◌, ◌/◌, ◌%◌, ◌<◌, ◌≤◌, ◌≡◌, List, [], ◌∷◌, ◌++◌, length, refl, sym, ap, subst, ◌∙◌, arith, ⊎_elim, ◌⊎◌, inl, inr}
use Rattle.std.specs.Prelude.{sum_by}
use Rattle.std.proofs.lemmas.Bool.{cases_lt}
use Rattle.std.proofs.lemmas.List.Sums.{sum_by-append}
use Rattle.std.proofs.lemmas.Nat.{mod_below, div-add-mod'}
use Rattle.std.proofs.Math.Nat.{mul-le-mul_right, mul-le-mul_left}
use Rattle.walk_times.proofs.number_laws_proofs.Numbers.{some_times}
use Rattle.teg_net.specs.declared.entries.PlaceId.{PlaceId}
use Rattle.teg_net.specs.Nets.{NetLists}
use Rattle.teg_net.specs.Circuits.{place_at, IsPathBetween, IsCircuit, time_of, tokens_of}
use Rattle.teg_net.proofs.PathLaws.{IsPathBetween-append}
use Rattle.teg_loops.specs.Loops.{EndsBelow}
use Rattle.teg_loops.proofs.Taking.{Keeps, closed_keeps, shortened}
use Rattle.teg_loops.specs.ClosedPieces.{HasRound}
use Rattle.teg_loops.proofs.Again.{round_in, round_sum}
use Rattle.teg_loops.proofs.Visits.{rounds, rounds_lead, rounds_sum}

-- z is reached by a walk that starts at a date, at one of the first `most` numbers, and any walk with this start comes no later
pub record ReachedFrom (e : NetLists) (n most : ℕ) (z : ℕ → ℕ → ℕ) (t k : ℕ) : Type 0 where
  pub from : ℕ
  pub number : ℕ
  pub start : ℕ
  pub walk : List PlaceId
  pub from_in : from < n
  pub early : number ≤ most
  pub leads : IsPathBetween e from walk t
  pub number_is : number + tokens_of e walk ≡ k
  pub date_is : start + time_of e walk ≡ z t k
  pub greatest : (u : ℕ) (ps : List PlaceId) → u < n → IsPathBetween e from ps u → start + time_of e ps ≤ z u (number + tokens_of e ps)

-- due dates d of a list that goes on, and dates z of a live net
pub record LateSetting (e : NetLists) (n T C span most every last gap size : ℕ) (z : ℕ → ℕ → ℕ) (d : ℕ → ℕ) : Type 0 where
  pub ends : EndsBelow e n
  pub live : (ps : List PlaceId) → IsCircuit e ps → 1 ≤ tokens_of e ps
  pub short_tokens : (ps : List PlaceId) (s t : ℕ) → IsPathBetween e s ps t → length ps < n → tokens_of e ps ≤ T
  pub piece_tokens : (ps : List PlaceId) (s t : ℕ) → IsPathBetween e s ps t → length ps ≤ n * every → tokens_of e ps ≤ every * C
  pub piece_time : (ps : List PlaceId) (s t : ℕ) → IsPathBetween e s ps t → length ps ≤ n * every → time_of e ps ≤ span
  pub long : (ps : List PlaceId) (s t : ℕ) → IsPathBetween e s ps t → every * C < tokens_of e ps → n * every ≤ length ps
  pub every_some : 1 ≤ every
  pub reached : (t k : ℕ) → t < n → 1 ≤ k → ReachedFrom e n most z t k
  pub first : (j t : ℕ) (ps : List PlaceId) → j < n → t < n → IsPathBetween e j ps t → time_of e ps ≤ z t (1 + tokens_of e ps)
  pub again : (k : ℕ) → size < k + every → d (k + every) ≡ d k + gap
  pub slow : (k : ℕ) → every * d k ≤ every * last + gap * (k + every)

-- a number up to the bound is late
pub record LateWithin (z : ℕ → ℕ) (d : ℕ → ℕ) (most : ℕ) : Type 0 where
  pub number : ℕ
  pub some : 1 ≤ number
  pub within : number ≤ most
  pub late : d number < z number

abbrev pub steep_bound : ℕ → ℕ → ℕ → ℕ → ℕ → ℕ
steep_bound T C span every last = 1 + T + (last + 1) * (every * C) + span * (1 + T + every)

abbrev pub flat_bound : ℕ → ℕ → ℕ → ℕ → ℕ
flat_bound C most every size = size + every * C + most

due_back : (every gap size : ℕ) (d : ℕ → ℕ) → ((k : ℕ) → size < k + every → d (k + every) ≡ d k + gap) → (q j : ℕ) → size < j + every → d (j + q * every) ≡ d j + q * gap
due_back every gap size d again zero j l = let e : j + 0 * every ≡ j = omega arith in let f : d j + 0 * gap ≡ d j = omega arith in ap d e ∙ sym f
due_back every gap size d again (suc q) j l =
    let e : j + suc q * every ≡ j + q * every + every = omega arith in
    let old = due_back every gap size d again q j l in
    let next = again (j + q * every) (omega arith) in
    let f : d (j + suc q * every) ≡ d (j + q * every + every) = ap d e in
    let g : suc q * gap ≡ q * gap + gap = omega arith in
    omega arith

-- an earlier number is late
abbrev pub IsLateBefore : (ℕ → ℕ) → (ℕ → ℕ) → ℕ → Type 0
IsLateBefore z d k = (j : ℕ) × (1 ≤ j) × (j < k) × (d j < z j)

-- a walk from which a round is taken out that gives no more time than the due dates do comes too late as well
pub taken_out : (e : NetLists) (n most every gap size long : ℕ) (z : ℕ → ℕ → ℕ) (d : ℕ → ℕ) (t k : ℕ) → t < n → 1 ≤ every → ((j : ℕ) → size < j + every → d (j + every) ≡ d j + gap)
    → (w : ReachedFrom e n most z t k) (r : HasRound e w.from t every long w.walk) → 1 ≤ tokens_of e r.round
    → size + tokens_of e r.round + most < k → time_of e r.round ≤ gap * r.times → d k < z t k → IsLateBefore (z t) d k
taken_out e n most every gap size long z d t k lt some again w r own far flat late =
    let f : PlaceId → ℕ = λ p. (place_at e p).tokens in
    let g : PlaceId → ℕ = λ p. (place_at e p).hold in
    let number = w.number_is in
    let early = w.early in
    let q : ℕ = r.times in
    let q_is : tokens_of e r.round ≡ q * every = r.tokens in
    let tokens : tokens_of e w.walk ≡ tokens_of e (r.before ++ r.after) + tokens_of e r.round = round_sum f e w.from t every long w.walk r in
    let time : time_of e w.walk ≡ time_of e (r.before ++ r.after) + time_of e r.round = round_sum g e w.from t every long w.walk r in
    let j : ℕ = k - q * every in
    let back : k ≡ j + q * every = omega arith in
    let due : d k ≡ d j + q * gap = ap d back ∙ due_back every gap size d again q j (omega arith) in
    let turned : q * gap ≡ gap * q = grind arith in
    let left : IsPathBetween e w.from (r.before ++ r.after) t = IsPathBetween-append e r.before r.after w.from r.at t r.first r.last in
    let there : w.number + tokens_of e (r.before ++ r.after) ≡ j = omega arith in
    let best : w.start + time_of e (r.before ++ r.after) ≤ z t j = subst (λ (x : ℕ). w.start + time_of e (r.before ++ r.after) ≤ z t x) there (w.greatest t (r.before ++ r.after) lt left) in
    let date = w.date_is in
    (j, omega arith, omega arith, omega arith)

-- the walk that goes round often enough is late
steep_late : (every last gap T t0 q time r w du total : ℕ) → 1 ≤ every → t0 ≤ T → gap * q < time → w * every ≤ gap * (1 + T + every) → gap * (1 + T + every) < w * every + every → r ≡ last + 1 + w
    → every * du ≤ every * last + gap * (1 + (t0 + r * (q * every)) + every) → r * time ≤ total → du < total
steep_late every last gap T t0 q time r w du total le lt steep low high r_is slow most =
    let one : r * (gap * q + 1) ≤ r * time = mul-le-mul_left r (omega arith) in
    let two : every * (r * (gap * q + 1)) ≤ every * total = mul-le-mul_left every (omega arith) in
    let three : every * (r * (gap * q + 1)) ≡ gap * (r * (q * every)) + every * r = grind arith in
    let four : every * r ≡ every * (last + 1 + w) = ap (λ (z : ℕ). every * z) r_is in
    let five : every * (last + 1 + w) ≡ every * last + every + w * every = grind arith in
    let six : gap * (1 + (t0 + r * (q * every)) + every) ≡ gap * (1 + t0 + every) + gap * (r * (q * every)) = grind arith in
    let seven : gap * (1 + t0 + every) ≤ gap * (1 + T + every) = mul-le-mul_left gap (omega arith) in
    ⊎_elim
    (λ (l : du < total). l)
    (λ (m : total ≤ du). let eight : every * total ≤ every * du = mul-le-mul_left every m in absurd (omega arith))
    (cases_lt du total)

steep_within : (every last gap T C span t0 q time r w : ℕ) → t0 ≤ T → gap * q < time → time ≤ span → w * every ≤ gap * (1 + T + every) → r ≡ last + 1 + w → q * every ≤ every * C
    → 1 + (t0 + r * (q * every)) ≤ steep_bound T C span every last
steep_within every last gap T C span t0 q time r w lt steep le low r_is few =
    let one : r * (q * every) ≡ (last + 1 + w) * (q * every) = ap (λ (z : ℕ). z * (q * every)) r_is in
    let two : (last + 1 + w) * (q * every) ≡ (last + 1) * (q * every) + q * (w * every) = grind arith in
    let three : (last + 1) * (q * every) ≤ (last + 1) * (every * C) = mul-le-mul_left (last + 1) few in
    let four : q * (w * every) ≤ q * (gap * (1 + T + every)) = mul-le-mul_left q low in
    let five : q * (gap * (1 + T + every)) ≡ gap * q * (1 + T + every) = grind arith in
    let six : gap * q * (1 + T + every) ≤ span * (1 + T + every) = mul-le-mul_right {m = gap * q} {n = span} (1 + T + every) (omega arith) in
    omega arith

-- a late number past the flat bound: an earlier one is late, or one up to the steep bound
earlier : (e : NetLists) (n T C span most every last gap size : ℕ) (z : ℕ → ℕ → ℕ) (d : ℕ → ℕ) → LateSetting e n T C span most every last gap size z d → (t k : ℕ) → t < n
    → flat_bound C most every size < k → d k < z t k → IsLateBefore (z t) d k ⊎ LateWithin (z t) d (steep_bound T C span every last)
earlier e n T C span most every last gap size z d s t k lt far late =
    let f : PlaceId → ℕ = λ p. (place_at e p).tokens in
    let g : PlaceId → ℕ = λ p. (place_at e p).hold in
    let w : ReachedFrom e n most z t k = s.reached t k lt (omega arith) in
    let number = w.number_is in
    let early = w.early in
    let many : n * every ≤ length w.walk = s.long w.walk w.from t w.leads (omega arith) in
    let r : HasRound e w.from t every (n * every) w.walk = round_in e n every w.walk w.from t s.ends lt w.leads s.every_some many in
    let soon = r.early in
    let some_arith = r.some in
    let own : Keeps e 0 0 r.round = closed_keeps e 0 0 (λ ps c. record { some = s.live ps c; ratio = omega arith }) r.round r.at r.closed r.some in
    let q : ℕ = r.times in
    let q_is : tokens_of e r.round ≡ q * every = r.tokens in
    let q_some : 1 ≤ q = some_times (tokens_of e r.round) every q own.some r.tokens in
    let few : tokens_of e r.round ≤ every * C = s.piece_tokens r.round r.at r.at r.closed (omega arith) in
    let brief : time_of e r.round ≤ span = s.piece_time r.round r.at r.at r.closed (omega arith) in
    let tokens : tokens_of e w.walk ≡ tokens_of e (r.before ++ r.after) + tokens_of e r.round = round_sum f e w.from t every (n * every) w.walk r in
    let time : time_of e w.walk ≡ time_of e (r.before ++ r.after) + time_of e r.round = round_sum g e w.from t every (n * every) w.walk r in
    ⊎_elim
    (λ (steep : gap * q < time_of e r.round).
    let short = shortened e n r.at t s.ends lt r.after r.last in
    let path : List PlaceId = short.0 in
    let t0 : tokens_of e path ≤ T = s.short_tokens path r.at t short.1 short.2 in
    let quotient : ℕ = gap * (1 + T + every) / every in
    let parts : quotient * every + gap * (1 + T + every) % every ≡ gap * (1 + T + every) = div-add-mod' (gap * (1 + T + every)) every in
    let low : gap * (1 + T + every) % every < every = mod_below (gap * (1 + T + every)) every s.every_some in
    let times : ℕ = last + 1 + quotient in
    let at_in : r.at < n = at_below e n r.at r.round s.ends r.closed r.some in
    let walk : List PlaceId = rounds times r.round ++ path in
    let leads : IsPathBetween e r.at walk t = IsPathBetween-append e (rounds times r.round) path r.at r.at t (rounds_lead e r.at r.round times r.closed) short.1 in
    let one : tokens_of e walk ≡ tokens_of e (rounds times r.round) + tokens_of e path = sum_by-append f (rounds times r.round) path in
    let two : tokens_of e (rounds times r.round) ≡ times * (q * every) = rounds_sum f r.round times ∙ ap (λ (x : ℕ). times * x) r.tokens in
    let three : time_of e walk ≡ time_of e (rounds times r.round) + time_of e path = sum_by-append g (rounds times r.round) path in
    let four : time_of e (rounds times r.round) ≡ times * time_of e r.round = rounds_sum g r.round times in
    let five : time_of e walk ≤ z t (1 + tokens_of e walk) = s.first r.at t walk at_in lt leads in
    let there : 1 + tokens_of e walk ≡ 1 + (tokens_of e path + times * (q * every)) = omega arith in
    inr (record {
      number = 1 + tokens_of e walk;
      some = omega arith;
      within = subst (λ (x : ℕ). x ≤ steep_bound T C span every last) (sym there)
          (steep_within every last gap T C span (tokens_of e path) q (time_of e r.round) times quotient t0 steep brief (omega arith) refl (omega arith));
      late = steep_late every last gap T (tokens_of e path) q (time_of e r.round) times quotient (d (1 + tokens_of e walk))
          (z t (1 + tokens_of e walk)) s.every_some t0 steep (omega arith) (omega arith) refl
          (subst (λ (x : ℕ). every * d (1 + tokens_of e walk) ≤ every * last + gap * (x + every)) there (s.slow (1 + tokens_of e walk))) (omega arith);
    }))
    (λ (flat : time_of e r.round ≤ gap * q).
    inl (taken_out e n most every gap size (n * every) z d t k lt s.every_some s.again w r own.some (omega arith) flat late))
    (cases_lt (gap * q) (time_of e r.round)) where
      at_below : (e : NetLists) (n a : ℕ) (ps : List PlaceId) → EndsBelow e n → IsPathBetween e a ps a → 0 < length ps → a < n
      at_below e n a [] ends h l = absurd (omega arith)
      at_below e n a (p ∷ ps) ends h l = subst (λ (x : ℕ). x < n) h.1 (ends.from_in p h.0)

late_on : (e : NetLists) (n T C span most every last gap size : ℕ) (z : ℕ → ℕ → ℕ) (d : ℕ → ℕ) → LateSetting e n T C span most every last gap size z d
    → (fuel t k : ℕ) → k < fuel → t < n → 1 ≤ k → d k < z t k → LateWithin (z t) d (flat_bound C most every size + steep_bound T C span every last)
late_on e n T C span most every last gap size z d s zero t k l lt one late = absurd (omega arith)
late_on e n T C span most every last gap size z d s (suc fuel) t k l lt one late = ⊎_elim
    (λ (far : flat_bound C most every size < k). ⊎_elim
    (λ old. late_on e n T C span most every last gap size z d s fuel t old.0 (let x = old.2 in omega arith) lt old.1 old.3)
    (λ (w : LateWithin (z t) d (steep_bound T C span every last)). let x = w.within in record { number = w.number; some = w.some; within = omega arith; late = w.late })
    (earlier e n T C span most every last gap size z d s t k lt far late))
    (λ (near : k ≤ flat_bound C most every size). record { number = k; some = one; within = omega arith; late = late })
    (cases_lt (flat_bound C most every size) k)

-- if some number is late, one is that is not great
pub late_soon : (e : NetLists) (n T C span most every last gap size : ℕ) (z : ℕ → ℕ → ℕ) (d : ℕ → ℕ) → LateSetting e n T C span most every last gap size z d
    → (t k : ℕ) → t < n → 1 ≤ k → d k < z t k → LateWithin (z t) d (flat_bound C most every size + steep_bound T C span every last)
late_soon e n T C span most every last gap size z d s t k lt one late = late_on e n T C span most every last gap size z d s (suc k) t k (omega arith) lt one late
