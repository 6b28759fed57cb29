-- Ways round a critical transition: up to a multiple of a period their tokens are all multiples of a common divisor.
use Rattle.std.proofs.Common.{ℕ, zero, suc, ◌+◌, ◌-◌, ◌*◌, ◌/◌, ◌<◌, ◌≤◌, ◌≡◌, List, [], ◌∷◌, ◌++◌, refl, sym, ap, subst, ◌∙◌, arith, ⊎_elim}
use Rattle.std.specs.Prelude.{All}
use Rattle.std.specs.Int.{◌∣◌}
use Rattle.std.proofs.lemmas.Bool.{cases_lt}
use Rattle.std.proofs.lemmas.List.Elements.{All-nil, All-cons, All-tail}
use Rattle.std.proofs.lemmas.List.Sums.{sum_by-append}
use Rattle.std.proofs.lemmas.Nat.{div-add-mod'}
use Rattle.std.proofs.lemmas.Nat.Gcd.{dvd_refl, dvd-zero, dvd_trans, mod-eq-zero_of_dvd}
use Rattle.std.proofs.Math.Nat.{dvd-add, dvd-mul_left_of_dvd}
use Rattle.bound_laws.specs.teg_net.declared.entries.PlaceId.{PlaceId}
use Rattle.bound_laws.specs.teg_net.Nets.{NetLists}
use Rattle.bound_laws.specs.teg_net.Circuits.{place_at, IsPathBetween, time_of, tokens_of}
use Rattle.bound_laws.proofs.teg_net_proofs.PathLaws.{IsPathBetween-append}
use Rattle.cyclicity_laws.specs.CriticalParts.{IsCircuitOfCriticalPart, IsMultipleOfGcd, CommonMultiplesAreByParts}

-- a way from transition c round to it that has the ratio and so many tokens
pub record IsRound (net : NetLists) (a b c n : ℕ) : Type 0 where
  pub places : List PlaceId
  pub closed : IsPathBetween net c places c
  pub critical : b * time_of net places ≡ a * n
  pub tokens : tokens_of net places ≡ n

module _ (net : NetLists) (a b c : ℕ) where
  joined : (m n : ℕ) → IsRound net a b c m → IsRound net a b c n → IsRound net a b c (m + n)
  joined m n h k =
      let time : time_of net (h.places ++ k.places) ≡ time_of net h.places + time_of net k.places = sum_by-append (λ p. (place_at net p).hold) h.places k.places in
      let tokens : tokens_of net (h.places ++ k.places) ≡ tokens_of net h.places + tokens_of net k.places = sum_by-append (λ p. (place_at net p).tokens) h.places k.places in
      let left : b * (time_of net h.places + time_of net k.places) ≡ b * time_of net h.places + b * time_of net k.places = grind arith in
      let right : a * (m + n) ≡ a * m + a * n = grind arith in
      let one = h.critical in
      let two = k.critical in
      let e = h.tokens in
      let f = k.tokens in
      record {
        places = h.places ++ k.places;
        closed = IsPathBetween-append net h.places k.places c c c h.closed k.closed;
        critical = ap (λ z. b * z) time ∙ omega (arith, left, right, one, two);
        tokens = omega (arith, tokens, e, f);
      }

  pub repeated : (r n : ℕ) → IsRound net a b c n → IsRound net a b c (r * n)
  repeated zero n h =
      let none : a * (0 * n) ≡ 0 = grind arith in
      let nothing : 0 * n ≡ 0 = omega arith in
      record { places = []; closed = refl; critical = omega (arith, none); tokens = omega (arith, nothing) }
  repeated (suc r) n h =
      let e : n + r * n ≡ suc r * n = omega arith in
      subst (IsRound net a b c) e (joined n (r * n) h (repeated r n h))

  same : (m n : ℕ) → m ≡ n → IsRound net a b c m → IsRound net a b c n
  same m n e h = subst (IsRound net a b c) e h

  -- with some multiple of P, so many tokens are those of a way round
  pub record ComesRound (P n : ℕ) : Type 0 where
    pub times : ℕ
    pub round : IsRound net a b c (n + times * P)

  module _ (P : ℕ) (some : 1 ≤ P) (whole : IsRound net a b c P) where
    at_zero : ComesRound P 0
    at_zero = let e : P ≡ 0 + 1 * P = omega arith in record { times = 1; round = same P (0 + 1 * P) e whole }

    at_sum : (m n : ℕ) → ComesRound P m → ComesRound P n → ComesRound P (m + n)
    at_sum m n h k =
        let e : (m + h.times * P) + (n + k.times * P) ≡ (m + n) + (h.times + k.times) * P = grind arith in
        record { times = h.times + k.times; round = same _ _ e (joined (m + h.times * P) (n + k.times * P) h.round k.round) }

    -- (P - 1) more rounds of n take away n, up to a multiple of P
    at_difference : (m n : ℕ) → n ≤ m → ComesRound P m → ComesRound P n → ComesRound P (m - n)
    at_difference m n l h k =
        let q : ℕ = P - 1 in
        let r : ℕ = m - n in
        let is : P ≡ q + 1 = omega (arith, some) in
        let rest : m ≡ r + n = omega (arith, l) in
        let times : ℕ = h.times + (n + q * k.times) in
        let e : (m + h.times * P) + q * (n + k.times * P) ≡ r + times * P = numbers m n r q P h.times k.times is rest in
        record { times = times; round = same _ _ e (joined (m + h.times * P) (q * (n + k.times * P)) h.round (repeated q (n + k.times * P) k.round)) } where
          numbers : (m n r q P i j : ℕ) → P ≡ q + 1 → m ≡ r + n → (m + i * P) + q * (n + j * P) ≡ r + (i + (n + q * j)) * P
          numbers m n r q P i j e f = rw (e, f) (grind arith)

    at_multiple : (u n : ℕ) → ComesRound P n → ComesRound P (u * n)
    at_multiple zero n h = let e : 0 ≡ 0 * n = omega arith in subst (ComesRound P) e at_zero
    at_multiple (suc u) n h = let e : n + u * n ≡ suc u * n = omega arith in subst (ComesRound P) e (at_sum n (u * n) h (at_multiple u n h))

    -- a common divisor of both that comes round
    pub record HasDivisor (m n : ℕ) : Type 0 where
      pub divisor : ℕ
      pub left : divisor ∣ m
      pub right : divisor ∣ n
      pub comes : ComesRound P divisor

    here : (m n g : ℕ) → g ∣ m → g ∣ n → ComesRound P g → HasDivisor m n
    here m n g l r h = record { divisor = g; left = l; right = r; comes = h }

    -- Euclid's way, by differences
    divisor_of : (fuel m n : ℕ) → m + n < fuel → ComesRound P m → ComesRound P n → HasDivisor m n
    divisor_of zero m n l h k = absurd (omega arith)
    divisor_of (suc fuel) zero n l h k = here zero n n (dvd-zero n) (dvd_refl n) k
    divisor_of (suc fuel) (suc m) zero l h k = here (suc m) zero (suc m) (dvd_refl (suc m)) (dvd-zero (suc m)) h
    divisor_of (suc fuel) (suc m) (suc n) l h k = ⊎_elim
        (λ (less : m < n).
        let old : HasDivisor (suc m) (suc n - suc m) = divisor_of fuel (suc m) (suc n - suc m) (omega (arith, l, less)) h (at_difference (suc n) (suc m) (omega (arith, less)) k h) in
        let e : suc m + (suc n - suc m) ≡ suc n = omega (arith, less) in
        here (suc m) (suc n) old.divisor old.left (subst (λ z. old.divisor ∣ z) e (dvd-add old.divisor old.left old.right)) old.comes)
        (λ (more : n ≤ m).
        let old : HasDivisor (suc m - suc n) (suc n) = divisor_of fuel (suc m - suc n) (suc n) (omega (arith, l, more)) (at_difference (suc m) (suc n) (omega (arith, more)) h k) k in
        let e : (suc m - suc n) + suc n ≡ suc m = omega (arith, more) in
        here (suc m) (suc n) old.divisor (subst (λ z. old.divisor ∣ z) e (dvd-add old.divisor old.left old.right)) old.right old.comes)
        (cases_lt m n)

    -- the tokens of each circuit of the critical part come round
    of_circuit : (ps : List PlaceId) → IsCircuitOfCriticalPart net a b c ps → ComesRound P (tokens_of net ps)
    of_circuit ps h =
        let hold : PlaceId → ℕ = λ p. (place_at net p).hold in
        let token : PlaceId → ℕ = λ p. (place_at net p).tokens in
        let n : ℕ = tokens_of net (h.there ++ h.back) in
        let m : ℕ = tokens_of net (h.there ++ (ps ++ h.back)) in
        let one = sum_by-append token h.there h.back in
        let two = sum_by-append token h.there (ps ++ h.back) in
        let three = sum_by-append token ps h.back in
        let four = sum_by-append hold h.there h.back in
        let five = sum_by-append hold h.there (ps ++ h.back) in
        let six = sum_by-append hold ps h.back in
        let more : m ≡ n + tokens_of net ps = omega (arith, one, two, three) in
        let longer : time_of net (h.there ++ (ps ++ h.back)) ≡ time_of net (h.there ++ h.back) + time_of net ps = omega (arith, four, five, six) in
        let left : b * (time_of net (h.there ++ h.back) + time_of net ps) ≡ b * time_of net (h.there ++ h.back) + b * time_of net ps = grind arith in
        let right : a * (n + tokens_of net ps) ≡ a * n + a * tokens_of net ps = grind arith in
        let way = h.way in
        let critical = h.critical in
        let short : IsRound net a b c n = record { places = h.there ++ h.back; closed = IsPathBetween-append net h.there h.back c h.at c h.to h.from; critical = way; tokens = refl } in
        let long : IsRound net a b c m = record {
          places = h.there ++ (ps ++ h.back);
          closed = IsPathBetween-append net h.there (ps ++ h.back) c h.at c h.to (IsPathBetween-append net ps h.back h.at h.at c h.round h.from);
          critical = ap (λ z. b * z) longer ∙ left ∙ ap (λ z. z + b * time_of net ps) way ∙ ap (λ z. a * n + z) critical ∙ sym right ∙ ap (λ z. a * z) (sym more);
          tokens = refl;
        } in
        let difference : m - n ≡ tokens_of net ps = omega (arith, more) in
        subst (ComesRound P) difference (at_difference m n (omega (arith, more)) (at_once m long) (at_once n short)) where
          at_once : (k : ℕ) → IsRound net a b c k → ComesRound P k
          at_once k r = let e : k ≡ k + 0 * P = omega arith in record { times = 0; round = same k (k + 0 * P) e r }

    pub record HasCommonDivisor (circuits : List (List PlaceId)) : Type 0 where
      pub divisor : ℕ
      pub divides : All (λ ps. divisor ∣ tokens_of net ps) circuits
      pub comes : ComesRound P divisor

    of_circuits : (circuits : List (List PlaceId)) → All (IsCircuitOfCriticalPart net a b c) circuits → HasCommonDivisor circuits
    of_circuits [] all = record { divisor = 0; divides = All-nil (λ ps. 0 ∣ tokens_of net ps); comes = at_zero }
    of_circuits (ps ∷ circuits) all =
        let rest = of_circuits circuits (All-tail (IsCircuitOfCriticalPart net a b c) ps circuits all) in
        let own = of_circuit ps (all 0 ps (omega arith)) in
        let both = divisor_of (suc (tokens_of net ps + rest.divisor)) (tokens_of net ps) rest.divisor (omega arith) own rest.comes in
        record {
          divisor = both.divisor;
          divides = All-cons (λ qs. both.divisor ∣ tokens_of net qs) ps circuits both.left (λ i d l. dvd_trans both.divisor both.right (rest.divides i d l));
          comes = both.comes;
        }

    -- so does each multiple of their greatest common divisor
    pub comes_round : (L : ℕ) (circuits : List (List PlaceId)) → All (IsCircuitOfCriticalPart net a b c) circuits → IsMultipleOfGcd net circuits L → ComesRound P L
    comes_round L circuits all multiple =
        let g = of_circuits circuits all in
        let rest = mod-eq-zero_of_dvd g.divisor (multiple g.divisor g.divides) in
        let parts = div-add-mod' L g.divisor in
        let e : (L / g.divisor) * g.divisor ≡ L = omega (arith, rest, parts) in
        subst (ComesRound P) e (at_multiple (L / g.divisor) g.divisor g.comes)

pub common_by_parts : CommonMultiplesAreByParts
common_by_parts net a b L common c ps h =
    let w = common c ps h in
    let qs : List PlaceId = w.0 in
    let none : b * 0 ≡ a * 0 = omega arith in (
      qs ∷ [],
      All-cons (IsCircuitOfCriticalPart net a b c) qs []
          (record {
            circuit = w.1.circuit;
            at = c;
            round = w.1.at;
            critical = w.1.critical;
            there = [];
            back = [];
            to = refl;
            from = refl;
            way = none;
          }) (All-nil (IsCircuitOfCriticalPart net a b c)),
      λ d all. subst (λ z. d ∣ z) (sym w.3) (dvd-mul_left_of_dvd d (all 0 qs (omega arith)) w.2),
    )
