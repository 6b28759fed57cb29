-- The order of ratios in lowest terms is that of their values.
use Rattle.std.proofs.Common.{ℕ, ◌+◌, ◌-◌, ◌*◌, ◌<◌, ◌≤◌, ◌≡◌, sym, ap, subst, ◌∙◌, arith}
use Rattle.std.specs.Cmp.{nat_cmp_is, ranks, tied_itself}
use Rattle.std.specs.Ordering.{nat_cmp, ordering_then}
use Rattle.std.specs.declared.cmp.Ordering.{Ordering}
use Rattle.std.specs.declared.cmp.Ordering.TheVariants.{Less, Equal, Greater}
use Rattle.number_laws.proofs.Fractions.{Coprime, one_fraction}
use Rattle.teg_net.specs.Ratios.{Fraction, IsLowestTerms, IsOrderOf}
use Rattle.teg_net.specs.RatioOrders.{product_cmp, ratio_cmp, ratio_total, same_fraction, tokens_under}

under_is : (r : Fraction) → 1 ≤ r.tokens → tokens_under r ≡ r.tokens
under_is r p = omega arith

products_are : (r s : Fraction) → 1 ≤ r.tokens → 1 ≤ s.tokens → product_cmp r s ≡ nat_cmp (r.time * s.tokens) (s.time * r.tokens)
products_are r s p q = ap (λ n. nat_cmp (r.time * n) (s.time * tokens_under r)) (under_is s q) ∙ ap (λ n. nat_cmp (r.time * s.tokens) (s.time * n)) (under_is r p)

coprime : (r : Fraction) → IsLowestTerms r → Coprime r.time r.tokens
coprime r h = record { only = h.lowest }

-- two ratios of one value are one
pub one_ratio : (r s : Fraction) → IsLowestTerms r → IsLowestTerms s → r.time * s.tokens ≡ s.time * r.tokens → r ≡ s
one_ratio r s h k e =
    let same = one_fraction r.tokens r.time r.tokens s.time s.tokens (omega arith) h.some k.some (coprime r h) (coprime s k) e in
    same_fraction r s same.0 same.1

-- an ordering of the values is what the order of ratios answers
pub ordering_is : (r s : Fraction) (o : Ordering) → IsLowestTerms r → IsLowestTerms s → IsOrderOf o r s → o ≡ ratio_cmp r s
ordering_is r s Less h k is =
    let told : Less ≡ product_cmp r s = nat_cmp_is (r.time * s.tokens) (s.time * r.tokens) Less is ∙ sym (products_are r s h.some k.some) in
    ap (λ (o : Ordering). ordering_then o (ordering_then (nat_cmp r.tokens s.tokens) (nat_cmp r.time s.time))) told
ordering_is r s Equal h k is = subst (λ (z : Fraction). Equal ≡ ratio_cmp r z) (one_ratio r s h k is) (sym (tied_itself ratio_total r))
ordering_is r s Greater h k is =
    let told : Greater ≡ product_cmp r s = nat_cmp_is (r.time * s.tokens) (s.time * r.tokens) Greater is ∙ sym (products_are r s h.some k.some) in
    ap (λ (o : Ordering). ordering_then o (ordering_then (nat_cmp r.tokens s.tokens) (nat_cmp r.time s.time))) told

-- what the order of ratios answers is the ordering of the values
pub order_is : (r s : Fraction) → IsLowestTerms r → IsLowestTerms s → IsOrderOf (ratio_cmp r s) r s
order_is r s h k =
    let ranked : IsOrderOf (nat_cmp (r.time * s.tokens) (s.time * r.tokens)) r s = ranks (r.time * s.tokens) (s.time * r.tokens) in
    subst (λ (o : Ordering). IsOrderOf o r s) (ordering_is r s (nat_cmp (r.time * s.tokens) (s.time * r.tokens)) h k ranked) ranked
