-- The dates of what happened keep the bounds that rows ask for.
use Rattle.std.proofs.Common.{ℕ, ◌+◌, ◌^◌, ◌≤◌, ◌≡◌, List, Option, Some, None, get_or, arith, pos, leb, true, false, ⊎_elim}
use Rattle.std.specs.Prelude.{All, IfSome}
use Rattle.std.proofs.lemmas.Bool.{cases_Bool}
use Rattle.std.proofs.lemmas.Int.{ints}
use Rattle.dioid.specs.declared.dates.Date.{Date}
use Rattle.dioid.specs.declared.dates.Date.TheVariants.{Early, At, Never}
use Rattle.dioid.specs.Dates.{later_of}
use Rattle.teg_net.specs.Nets.{NetLists, IsNet}
use Rattle.run_laws.specs.declared.fired.Fired.{Fired}
use Rattle.run_laws.specs.Runs.{firing_date}
use Rattle.dispatch.proofs.Runs.{firing_date_few}
use Rattle.date_rows.specs.KeptRows.{KeepsBounds}
use Rattle.date_rows.specs.teg_model.Datings.{at_input, extended_places, initial_date, listed_releases}
use Rattle.date_rows.specs.teg_model.DateBounds.{IsDateWithin}
use Rattle.date_rows.proofs.teg_model_proofs.Within.{within_more, net_is_bounded}
use Rattle.date_rows.proofs.teg_model_proofs.ListDates.{as_date_within, first_bound, listed_within}
use Rattle.state_laws.specs.NetsLeft.{count_in, system_after}

later_within : (n : ℕ) (a b : Date) → IsDateWithin n a → IsDateWithin n b → IsDateWithin n (later_of a b)
later_within n Early b h k = k
later_within n (At s) Early h k = h
later_within n (At s) (At t) h k = (grind (arith, ints, h.0, k.0), grind (arith, ints, h.1, k.1))
later_within n (At s) Never h k = tt
later_within n Never b h k = tt

some_more : (o : Option ℕ) (m n : ℕ) → m ≤ n → IfSome o (λ d. d ≤ m) → IfSome o (λ d. d ≤ n)
some_more None m n l h = tt
some_more (Some d) m n l h = omega (arith, l, h)

pub keeps_bounds : (net : NetLists) (run : List Fired) (now : ℕ) → IsNet net → All (λ f. f.date ≤ 10 ^ 18) run → now ≤ 10 ^ 18 → KeepsBounds (system_after net run now)
keeps_bounds net run now ok dates soon =
    let first : ℕ → ℕ = λ k. first_bound k + 10 ^ 18 in
    let own = net_is_bounded net (listed_releases net) first_bound ok (listed_within net ok) in
    let weaker : (k : ℕ) (o : Option ℕ) → IfSome o (λ d. d ≤ 10 ^ 18) → IfSome o (λ d. d ≤ first k) = λ k o h. some_more o (10 ^ 18) (first k) (omega arith) h in (
      first,
      record {
        holds = own.holds;
        grows = λ j k l. omega (arith, own.grows j k l);
        initial = λ i d l k o m. within_more (first_bound k) (first k) (initial_date (get_or (extended_places net) i d) k) (omega arith) (own.initial i d l k o m);
        release = λ t k o.
            let listed = within_more (first_bound k) (first k) (at_input net t (listed_releases net t k) Early) (omega arith) (own.release t k o) in
            let here : IsDateWithin (first k) (At (pos now)) = (omega (arith, ints), omega (arith, ints, soon)) in
            ⊎_elim
            (λ (e : leb k (count_in run t) ≡ true). rw e (as_date_within (firing_date run t k) (first k) (weaker k (firing_date run t k) (firing_date_few run t k (10 ^ 18) dates))))
            (λ (e : leb k (count_in run t) ≡ false). rw e (later_within (first k) (At (pos now)) (at_input net t (listed_releases net t k) Early) here listed))
            (cases_Bool (leb k (count_in run t)));
      },
      omega arith,
    )
