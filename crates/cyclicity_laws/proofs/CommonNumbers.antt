-- A number that is common towards each transition at each rate.
use Rattle.std.proofs.Common.{ℕ, zero, suc, ◌+◌, ◌*◌, ◌<◌, ◌≤◌, ◌≡◌, length, sym, ap, subst, ◌∙◌, arith, ⊎_elim}
use Rattle.std.specs.Int.{◌∣◌}
use Rattle.std.proofs.lemmas.Bool.{cases_lt}
use Rattle.std.proofs.lemmas.Nat.Gcd.{dvd_refl}
use Rattle.std.proofs.Math.Nat.{mul-le-mul_right, dvd-mul_left_of_dvd}
use Rattle.bound_laws.specs.teg_net.Limits.{greatest_every}
use Rattle.bound_laws.specs.teg_net.Circuits.{tokens_of}
use Rattle.bound_laws.specs.Critical.{IsCommon}
use Rattle.bound_laws.specs.PastTheBound.{factorial}
use Rattle.periodic_laws.specs.LinearSystem.{LeastDatingsRepeat}
use Rattle.slope_laws.proofs.EndedLists.{rule_in, rule_of}
use Rattle.slope_laws.proofs.WalkPaths.{tokens_round}
use Rattle.growth_laws.proofs.number_laws_proofs.Numbers.{some_of}
use Rattle.growth_laws.proofs.Growth.{slopes_exist}
use Rattle.cyclicity_laws.specs.Reached.{common_number, CommonByPartsExist, CommonTowardsExist, CommonOfNetsExist}
use Rattle.cyclicity_laws.proofs.Rounds.{common_by_parts}

in_factorial : (m n : ℕ) → 1 ≤ m → m ≤ n → (u : ℕ) × (factorial n ≡ u * m)
in_factorial m zero one l = absurd (omega (arith, one, l))
in_factorial m (suc n) one l = ⊎_elim
    (λ (less : m < suc n).
    let old = in_factorial m n one (omega (arith, less)) in
    let moved : suc n * (old.0 * m) ≡ suc n * old.0 * m = grind arith in
    (suc n * old.0, ap (λ z. suc n * z) old.1 ∙ moved))
    (λ (more : suc n ≤ m).
    let is : m ≡ suc n = omega (arith, more, l) in
    let turned : suc n * factorial n ≡ factorial n * suc n = grind arith in
    (factorial n, turned ∙ ap (λ z. factorial n * z) (sym is)))
    (cases_lt m (suc n))

some_factorial : (n : ℕ) → 1 ≤ factorial n
some_factorial zero = omega arith
some_factorial (suc n) =
    let old = some_factorial n in
    let wide : 1 * factorial n ≤ suc n * factorial n = mul-le-mul_right {m = 1} {n = suc n} (factorial n) (omega arith) in
    omega (arith, old, wide)

pub common_by_parts_exist : CommonByPartsExist
common_by_parts_exist net ends live tokens within a b = common_by_parts net a b (common_number net tokens) is where
  is : IsCommon net a b (common_number net tokens)
  is c ps h =
      let few = tokens_round net tokens ps ends within h.circuit in
      let w = in_factorial (tokens_of net ps) (length net.transitions * tokens + greatest_every) (some_of (tokens_of net ps) (live ps h.circuit)) (omega (arith, few)) in
      (ps, h, w.0, w.1)

pub common_towards_exist : CommonTowardsExist
common_towards_exist net ends rules live tokens within t a b = (
  some_factorial (length net.transitions * tokens + greatest_every),
  record {
    parts = λ c ps h leads. common_by_parts_exist net ends live tokens within a b c ps h;
    lists = λ list again w rate.
        let rule = rule_of list.dates list.again again w.goes_on (rule_in net list rules w.of_net) in
        let most = rule.every_in in
        let u = in_factorial again.every (length net.transitions * tokens + greatest_every) rule.some (omega (arith, most)) in
        subst (λ z. again.every ∣ z) (sym u.1) (dvd-mul_left_of_dvd again.every (dvd_refl again.every) u.0);
  },
)

pub common_of_nets_exist : LeastDatingsRepeat → CommonOfNetsExist
common_of_nets_exist repeat net ends inputs rising rules live tokens within x least t l endless =
    let w = slopes_exist repeat net ends inputs rising rules live x least t l endless in
    (w.0, w.1, w.2, w.3, λ some. (common_towards_exist net ends rules live tokens within t w.0 w.1).1)
