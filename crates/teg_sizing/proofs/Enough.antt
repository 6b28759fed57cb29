-- How many further tokens are enough, by the best circuit that passes the place.
use Rattle.std.proofs.Common.{ℕ, ℤ, pos, negsuc, zero, suc, ◌+◌, ◌-◌, ◌*◌, ◌/◌, ◌%◌, ◌<◌, ◌≤◌, ◌≡◌, ◌≢◌, ◌+ℤ◌, List, ◌++◌, take, drop, refl, sym, ap, subst, ◌∙◌, arith, ⊎_elim, inl, inr}
use Rattle.std.specs.Prelude.{◌≤ℤ◌, Contains}
use Rattle.std.proofs.lemmas.Int.{ints, by_lt_z}
use Rattle.std.proofs.lemmas.Nat.{mod_below, div-add-mod'}
use Rattle.std.proofs.Math.Nat.{mul-le-mul_left}
use Rattle.std.proofs.lemmas.Bool.{cases_lt}
use Rattle.std.proofs.lemmas.List.{take-append-drop}
use Rattle.std.proofs.lemmas.List.Elements.{All-append}
use Rattle.teg_net.specs.declared.entries.PlaceId.{PlaceId}
use Rattle.teg_net.specs.Nets.{NetLists}
use Rattle.teg_net.specs.Ratios.{Fraction}
use Rattle.teg_net.specs.Circuits.{time_of, tokens_of}
use Rattle.teg_sizing.specs.ValueRounds.{reduced_time_of_path, Avoids}
use Rattle.teg_sizing.specs.Surpluses.{NoneIsAbove, IsAboveApart, NonePasses, IsBestThrough}
use Rattle.teg_certificates.specs.Sizes.{OthersKeepTarget, IsEnough, IsFewest, IsNeverEnough}
use Rattle.teg_sizing.specs.Sizings.{IsTurnedLowest}
use Rattle.teg_sizing.proofs.Values.{contains_or_avoids, not_both, all_first, all_second}

-- a value of at most so much, in products
low_value : (net : NetLists) (r : Fraction) (ps : List PlaceId) (n : ℕ) → reduced_time_of_path net r ps ≤ℤ pos (r.time * n) → time_of net ps * r.tokens ≤ r.time * (tokens_of net ps + n)
low_value net r ps n h =
    let one : time_of net ps * r.tokens ≡ r.tokens * time_of net ps = grind arith in
    let two : r.time * (tokens_of net ps + n) ≡ r.time * tokens_of net ps + r.time * n = grind arith in
    omega (arith, ints)

low_alone : (net : NetLists) (r : Fraction) (ps : List PlaceId) → reduced_time_of_path net r ps ≤ℤ pos 0 → time_of net ps * r.tokens ≤ r.time * tokens_of net ps
low_alone net r ps h =
    let one : time_of net ps * r.tokens ≡ r.tokens * time_of net ps = grind arith in
    omega (arith, ints)

pub value_from : (net : NetLists) (r : Fraction) (ps : List PlaceId) (n : ℕ) → time_of net ps * r.tokens ≤ r.time * (tokens_of net ps + n) → reduced_time_of_path net r ps ≤ℤ pos (r.time * n)
value_from net r ps n h =
    let one : time_of net ps * r.tokens ≡ r.tokens * time_of net ps = grind arith in
    let two : r.time * (tokens_of net ps + n) ≡ r.time * tokens_of net ps + r.time * n = grind arith in
    omega (arith, ints)

module _ (net : NetLists) (r : Fraction) (p : PlaceId) where
  -- those that do not pass the place
  others_low : NoneIsAbove net r p → OthersKeepTarget net r p
  others_low none ps c off = ⊎_elim
      (λ (has : Contains ps p). absurd (off has))
      (λ (avoids : Avoids p ps). low_alone net r ps (none ps c avoids))
      (contains_or_avoids p ps)

  pub enough_by : (v : ℤ) (ps : List PlaceId) (d : ℕ) → NoneIsAbove net r p → IsBestThrough net r p v ps → v ≤ℤ pos (r.time * d) → IsEnough net r p d
  enough_by v ps d none best l = record {
    passing = λ qs c has. (let up = best.greatest qs c has in low_value net r qs d (omega (arith, ints)));
    others = others_low none;
  }

  -- nothing is wanted where no circuit passes the place, or none of them is above the target
  pub enough_alone : NoneIsAbove net r p → NonePasses net p → IsEnough net r p 0
  enough_alone none no_way = record {
    passing = λ qs c has. absurd (no_way qs c has);
    others = others_low none;
  }

  pub enough_none : (v : ℤ) (ps : List PlaceId) → NoneIsAbove net r p → IsBestThrough net r p v ps → v ≤ℤ pos 0 → IsEnough net r p 0
  enough_none v ps none best l = let z : r.time * 0 ≡ 0 = grind arith in enough_by v ps 0 none best (omega (arith, ints))

  -- what is enough reaches the best
  reached_by : (v : ℤ) (ps : List PlaceId) (d : ℕ) → IsBestThrough net r p v ps → IsEnough net r p d → v ≤ℤ pos (r.time * d)
  reached_by v ps d best enough = let own = value_from net r ps d (enough.passing ps best.circuit best.passes) in let is = best.is in omega (arith, ints)

  turned_has : (ps own : List PlaceId) → IsTurnedLowest net ps own → Contains ps p → Contains own p
  turned_has ps own t has = ⊎_elim
      (λ (h : Contains own p). h)
      (λ (avoids : Avoids p own). absurd (not_turned avoids))
      (contains_or_avoids p own) where
        not_turned : Avoids p own → ⊥
        not_turned avoids =
            let k : ℕ = t.turned.0 in
            let parts : Avoids p (drop k ps ++ take k ps) = subst (Avoids p) t.turned.2 avoids in
            let last : Avoids p (drop k ps) = all_first (λ q. q.index ≢ p.index) (drop k ps) (take k ps) parts in
            let first : Avoids p (take k ps) = all_second (λ q. q.index ≢ p.index) (drop k ps) (take k ps) parts in
            not_both p ps has (subst (Avoids p) (take-append-drop k ps) (All-append (λ q. q.index ≢ p.index) (take k ps) (drop k ps) first last))

  pub fewest_by : (v : ℤ) (ps own : List PlaceId) (extra : ℕ) → NoneIsAbove net r p → IsBestThrough net r p v ps
      → IsTurnedLowest net ps own → 1 ≤ extra → v ≤ℤ pos (r.time * extra) → (v ≤ℤ pos (r.time * (extra - 1)) → ⊥) → IsFewest net r p extra own
  fewest_by v ps own extra none best t some high low =
      let more : (pos (r.time * (extra - 1)) +ℤ pos 1) ≤ℤ v = above v (pos (r.time * (extra - 1))) low in
      let is = best.is in
      let tokens = t.tokens in
      let time = t.time in
      let two : r.time * (tokens_of net ps + (extra - 1)) ≡ r.time * tokens_of net ps + r.time * (extra - 1) = grind arith in
      let one : time_of net ps * r.tokens ≡ r.tokens * time_of net ps = grind arith in
      let same_time : time_of net own * r.tokens ≡ time_of net ps * r.tokens = ap (λ (z : ℕ). z * r.tokens) time in
      let same_tokens : r.time * (tokens_of net own + (extra - 1)) ≡ r.time * (tokens_of net ps + (extra - 1)) = ap (λ (z : ℕ). r.time * (z + (extra - 1))) tokens in
      record {
        some = some;
        enough = enough_by v ps extra none best high;
        least = λ d enough. ⊎_elim
            (λ (l : d < extra).
            let up = reached_by v ps d best enough in
            let wide : r.time * d ≤ r.time * (extra - 1) = mul-le-mul_left {m = d} {n = extra - 1} r.time (omega arith) in
            absurd (low (omega (arith, ints))))
            (λ (l : extra ≤ d). l)
            (cases_lt d extra);
        circuit = t.circuit;
        lowest = t.lowest;
        passes = turned_has ps own t best.passes;
        one_less = omega (arith, ints);
      } where
        above : (x y : ℤ) → (x ≤ℤ y → ⊥) → (y +ℤ pos 1) ≤ℤ x
        above x y n = by_lt_z y x (λ l. let up : (y +ℤ pos 1) ≤ℤ x = omega (arith, ints) in up) (λ l. absurd (n l))

  -- where the target is 0 and some circuit that passes the place takes time
  pub never_by : (v : ℤ) (ps own : List PlaceId) → NoneIsAbove net r p → IsBestThrough net r p v ps → IsTurnedLowest net ps own → (v ≤ℤ pos 0 → ⊥) → r.time ≡ 0 → IsNeverEnough net r p own
  never_by v ps own apart best t low still =
      let is = best.is in
      let tokens = t.tokens in
      let time = t.time in
      let one : time_of net own * r.tokens ≡ r.tokens * time_of net ps = ap (λ (z : ℕ). z * r.tokens) time ∙ (grind arith) in
      let two : r.time * tokens_of net own ≡ 0 = ap (λ (z : ℕ). z * tokens_of net own) still ∙ (grind arith) in
      let three : r.time * tokens_of net ps ≡ 0 = ap (λ (z : ℕ). z * tokens_of net ps) still ∙ (grind arith) in
      let up : pos 1 ≤ℤ v = by_lt_z (pos 0) v (λ l. let up : pos 1 ≤ℤ v = omega (arith, ints) in up) (λ l. absurd (low l)) in
      record {
        none = λ d enough.
            (let reached = reached_by v ps d best enough in
            let none : r.time * d ≡ 0 = ap (λ (z : ℕ). z * d) still ∙ (grind arith) in
            low (omega (arith, ints)));
        circuit = t.circuit;
        lowest = t.lowest;
        above = omega (arith, ints);
        by = inr (still, others_low apart);
      }

  -- where a circuit that avoids the place is above the target
  pub never_apart : (ps own : List PlaceId) → IsAboveApart net r p ps → IsTurnedLowest net ps own → IsNeverEnough net r p own
  never_apart ps own a t =
      let up = a.above in
      let tokens = t.tokens in
      let time = t.time in
      let off : Contains own p → ⊥ = λ has. not_both p own has (still_avoids t) in
      let one : time_of net own * r.tokens ≡ r.tokens * time_of net ps = ap (λ (z : ℕ). z * r.tokens) time ∙ (grind arith) in
      let two : r.time * tokens_of net own ≡ r.time * tokens_of net ps = ap (λ (z : ℕ). r.time * z) tokens in
      let above : r.time * tokens_of net own < time_of net own * r.tokens = omega (arith, ints) in
      record {
        none = λ d enough. (let low = enough.others own t.circuit off in omega arith);
        circuit = t.circuit;
        lowest = t.lowest;
        above = above;
        by = inl off;
      } where
        still_avoids : IsTurnedLowest net ps own → Avoids p own
        still_avoids t =
            let k : ℕ = t.turned.0 in
            let whole : Avoids p (take k ps ++ drop k ps) = subst (Avoids p) (sym (take-append-drop k ps)) a.avoids in
            let first : Avoids p (take k ps) = all_first (λ q. q.index ≢ p.index) (take k ps) (drop k ps) whole in
            let last : Avoids p (drop k ps) = all_second (λ q. q.index ≢ p.index) (take k ps) (drop k ps) whole in
            subst (Avoids p) (sym t.turned.2) (All-append (λ q. q.index ≢ p.index) (drop k ps) (take k ps) last first)

-- ---- rounding up

pub quotient_up : (v a : ℕ) → 1 ≤ a → 1 ≤ v → v ≤ a * ((v - 1) / a + 1)
quotient_up v a s t =
    let parts : (v - 1) / a * a + (v - 1) % a ≡ v - 1 = div-add-mod' (v - 1) a in
    let low : (v - 1) % a < a = mod_below (v - 1) a (omega arith) in
    let wide : a * ((v - 1) / a + 1) ≡ (v - 1) / a * a + a = grind arith in
    omega arith

pub quotient_low : (v a : ℕ) → 1 ≤ a → 1 ≤ v → v ≤ a * ((v - 1) / a) → ⊥
quotient_low v a s t h =
    let parts : (v - 1) / a * a + (v - 1) % a ≡ v - 1 = div-add-mod' (v - 1) a in
    let wide : a * ((v - 1) / a) ≡ (v - 1) / a * a = grind arith in
    absurd (omega arith)

-- a value above 0 is a number
pub number_of : (v : ℤ) → (v ≤ℤ pos 0 → ⊥) → (n : ℕ) × (v ≡ pos n) × (1 ≤ n)
number_of (pos zero) h = absurd (h (omega (arith, ints)))
number_of (pos (suc n)) h = (suc n, refl, omega arith)
number_of (negsuc n) h = absurd (h (omega (arith, ints)))
