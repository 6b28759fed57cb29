-- What the derived comparison of dates tells.
use Rattle.std.proofs.Common.{ℤ, ◌≡◌, refl, sym, ap, subst, arith}
use Rattle.std.specs.Prelude.{◌<ℤ◌}
use Rattle.std.specs.Ordering.{MatchOrdering}
use Rattle.std.specs.declared.cmp.Ordering.{Ordering}
use Rattle.std.specs.declared.cmp.Ordering.TheVariants.{Less, Equal, Greater}
use Rattle.std.proofs.lemmas.Cmp.{int_ranked}
use Rattle.std.proofs.lemmas.Int.{ints}
use Rattle.dioid.specs.DateOrder.{IsDateOrdering}
use Rattle.dioid.specs.declared.dates.Date.{Date}
use Rattle.dioid.specs.declared.dates.Date.TheVariants.{Early, At, Never}
use Rattle.dioid.specs.contracts.dates.DateOrd.TheImpl.{cmp-value as date_cmp}

-- an ordering of two numbers is that of the two dates
at_told : (s t : ℤ) (r : Ordering) → MatchOrdering r (s <ℤ t) (s ≡ t) (t <ℤ s) → IsDateOrdering r (At s) (At t)
at_told s t Less h = λ l. omega (arith, ints)
at_told s t Equal h = ap At h
at_told s t Greater h = λ l. omega (arith, ints)

-- an answer of the comparison is the ordering of the two dates
pub ordering_told : (a b : Date) (r : Ordering) → r ≡ date_cmp.it a b → IsDateOrdering r a b
ordering_told Early Early r e = subst (λ (o : Ordering). IsDateOrdering o Early Early) (sym e) refl
ordering_told Early (At t) r e = subst (λ (o : Ordering). IsDateOrdering o Early (At t)) (sym e) (λ l. l)
ordering_told Early Never r e = subst (λ (o : Ordering). IsDateOrdering o Early Never) (sym e) (λ l. l)
ordering_told (At s) Early r e = subst (λ (o : Ordering). IsDateOrdering o (At s) Early) (sym e) (λ l. l)
ordering_told (At s) (At t) r e = at_told s t r (int_ranked s t r e)
ordering_told (At s) Never r e = subst (λ (o : Ordering). IsDateOrdering o (At s) Never) (sym e) (λ l. l)
ordering_told Never Early r e = subst (λ (o : Ordering). IsDateOrdering o Never Early) (sym e) (λ l. l)
ordering_told Never (At t) r e = subst (λ (o : Ordering). IsDateOrdering o Never (At t)) (sym e) (λ l. l)
ordering_told Never Never r e = subst (λ (o : Ordering). IsDateOrdering o Never Never) (sym e) refl
