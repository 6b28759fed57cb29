-- No dates but the least are those by the form.
use Rattle.std.proofs.Common.{ℕ, ◌+◌, ◌-◌, ◌<◌, ◌≤◌, ◌≡◌, ◌≢◌, List, [], ◌∷◌, length, get_or, refl, sym, ap, subst, ◌∙◌, arith, ⊎_elim}
use Rattle.std.specs.Prelude.{pos, All, Any, slice_get, IsSomeAnd}
use Rattle.std.proofs.lemmas.Bool.{cases_lt}
use Rattle.std.proofs.lemmas.List.{get_or_default}
use Rattle.std.proofs.lemmas.Option.{slice_get_past}
use Rattle.std.proofs.lemmas.List.Sums.{sum_by-cons}
use Rattle.dioid.specs.declared.dates.Date.{Date}
use Rattle.dioid.specs.declared.dates.Date.TheVariants.{Early, At}
use Rattle.dioid.specs.Dates.{IsAtMostDate, delayed}
use Rattle.dioid.proofs.DateOrder.{at_most_trans, later_least}
use Rattle.teg_net.specs.declared.entries.Role.TheVariants.{Input}
use Rattle.teg_net.specs.declared.entries.Transition.{Transition}
use Rattle.teg_net.specs.declared.entries.PlaceId.{PlaceId}
use Rattle.teg_net.specs.declared.entries.Place.{Place}
use Rattle.teg_net.specs.Nets.{NetLists, IsInput}
use Rattle.teg_net.specs.Circuits.{no_place, place_at, IsPathBetween, time_of, tokens_of}
use Rattle.teg_net.specs.ReadyDates.{ready_date, start_date}
use Rattle.teg_net.proofs.StartDates.{IsStartDate-start_date}
use Rattle.teg_model.specs.Systems.{System}
use Rattle.teg_model.specs.LiveRanks.{AreRanks, HasEndsInRange}
use Rattle.teg_model.specs.Datings.{implicit_place, extended_places, initial_date, available_at, at_input, system_of, IsFeasibleUnder, IsLeastUnder}
use Rattle.teg_model.specs.LeastDatings.{IsTight}
use Rattle.teg_model.proofs.OfNet.{all_extended_in, extended_has, implicit_is, release_below, feasible_in}
use Rattle.teg_model.proofs.Tokens.{available_first, implicit_gives}
use Rattle.teg_model.proofs.WalkSteps.{Keeps, feasible_keeps_in}
use Rattle.teg_model.proofs.TightLeast.{tight_is_least}
use Rattle.teg_model.proofs.DateFunctions.{Dating}
use Rattle.teg_form.specs.declared.stars.StarEntry.{StarEntry}
use Rattle.teg_form.specs.declared.entries.Entry.{Entry}
use Rattle.teg_form.specs.StandardForms.{FormLists, IsStarEntry, IsEntry, IsStandardFormOf}
use Rattle.teg_form.specs.FormDates.{IsNotBeforeForm, AreDatesByForm}
use Rattle.teg_form.proofs.PathDates.{WaitsForPlaces, path_waits}
use Rattle.teg_form.proofs.DatesByForm.{first_from_zero, own_place, own_before, released}

-- an input is a transition of the net
some_in : (ts : List Transition) (t : ℕ) → IsSomeAnd (slice_get ts t) (λ x. x.role ≡ Input) → t < length ts
some_in ts t h =
    ⊎_elim
    (λ (l : t < length ts). l)
    (λ (l : length ts ≤ t). absurd (subst (λ o. IsSomeAnd o (λ x. x.role ≡ Input)) (slice_get_past ts t l) h))
    (cases_lt t (length ts))

-- a date that waits for the places into a transition waits for each path to it that has a place
star_waits : (net : NetLists) (x : Dating) → Keeps net x → (t k : ℕ) (z : Date) → WaitsForPlaces net x t k z → 1 ≤ k
    → (places : List PlaceId) (a : ℕ) → t ≢ a → IsPathBetween net a places t → tokens_of net places ≡ 0 → IsAtMostDate (delayed (time_of net places) (x a k)) z
star_waits net x c t k z w o [] a apart h none = absurd (apart (sym h))
star_waits net x c t k z w o (p ∷ ps) a apart h none = path_waits net x c t k z w p ps a k o (omega (arith, none)) h

module _ (net : NetLists) (form : FormLists) (h : IsStandardFormOf net form) (u x : Dating) (bound : ℕ) (r : ℕ → ℕ)
    (ends : HasEndsInRange net) (rr : AreRanks net.places bound r) (d : AreDatesByForm net form u x) where
  feasible : IsFeasibleUnder net u x
  feasible = record {
    places = λ k o. all_extended_in net (λ p. IsAtMostDate (available_at x p k) (x p.to.index k))
        (λ i e l.
        let p : Place = get_or net.places i no_place in
        let to : ℕ = p.to.index in
        let read = get_or_default net.places i e no_place l in
        rw read (own_place net form h u x to k (x to k) o (d to k (ends i no_place l).1 o).not_before bound r rr i l refl))
        (λ t l. own_before net form h u x t k (x t k) o (d t k l o).not_before);
    inputs = λ t k o e. released net form h u x t k (x t k) o (d t k (some_in net.transitions t e) o).not_before e;
  }

  keeps : Keeps net x
  keeps = let s : System = system_of net u in feasible_keeps_in net initial_date s.release x (feasible_in net u x feasible)

  module _ (t k : ℕ) (z : Date) (l : t < length net.transitions) (o : 1 ≤ k) (all : All (λ p. p.to.index ≡ t → IsAtMostDate (available_at x p k) z) (extended_places net)) where
    implicit_below : IsAtMostDate (available_at x (implicit_place t) k) z
    implicit_below = let own = implicit_is net t l in (rw own.2 at (all own.0 no_place own.1)) refl

    before_below : 1 < k → IsAtMostDate (x t (k - 1)) z
    before_below more =
        let plus : (k - 1) + 1 ≡ k = omega arith in
        let is : available_at x (implicit_place t) k ≡ x t (k - 1) = ap (available_at x (implicit_place t)) (sym plus) ∙ implicit_gives initial_date x t (k - 1) (omega arith) in
        subst (λ e. IsAtMostDate e z) is implicit_below

    waits_for : WaitsForPlaces net x t k z
    waits_for p in' q = extended_has net (λ y. y.to.index ≡ t → IsAtMostDate (available_at x y k) z) (λ i m. all i no_place m) p.index in' q

    zero_below : IsAtMostDate (At (pos 0)) z
    zero_below =
        ⊎_elim
        (λ (more : 1 < k).
        let first = first_from_zero net u t (k - 1) in
        let start = (d t (k - 1) l (omega arith)).not_before.start in
        at_most_trans (At (pos 0)) (x t (k - 1)) z (at_most_trans (At (pos 0)) _ (x t (k - 1)) first start) (before_below more))
        (λ (one : k ≤ 1).
        let is : k ≡ 1 = omega arith in
        let date = available_first initial_date x (implicit_place t) k one ∙ ap (initial_date (implicit_place t)) is in
        subst (λ e. IsAtMostDate e z) date implicit_below)
        (cases_lt 1 k)

    ready_below : IsAtMostDate (At (pos (start_date net t k))) z
    ready_below =
        ⊎_elim
        (λ (none : start_date net t k ≡ 0). rw none zero_below)
        (λ (one : Any (λ p. (p.to.index ≡ t) × (k ≤ p.tokens) × (ready_date p k ≡ start_date net t k)) net.places).
        let p : Place = get_or net.places one.0 no_place in
        let is : p ≡ one.1 = get_or_default net.places one.0 no_place one.1 one.2 ∙ one.3 in
        let into : p.to.index ≡ t = ap (λ q. q.to.index) is ∙ one.4.0 in
        let few : k ≤ p.tokens = rw is one.4.1 in
        let date : ready_date p k ≡ start_date net t k = ap (λ q. ready_date q k) is ∙ one.4.2 in
        let below = waits_for (record { index = one.0 }) one.2 into in
        subst (λ v. IsAtMostDate (At (pos v)) z) date (subst (λ e. IsAtMostDate e z) (available_first initial_date x p k few) below))
        (IsStartDate-start_date net t k).reached

    not_before : (IsInput net t → IsAtMostDate (u t k) z) → IsNotBeforeForm net form u x t k z
    not_before under = record {
      start = later_least (At (pos (start_date net t k))) (at_input net t (u t k) Early) z ready_below (release_below net t (u t k) z under);
      before = before_below;
      stars = λ i e m q.
          let s : StarEntry = get_or form.stars i e in
          let known : IsStarEntry net s = h.stars.known i e m in
          let path = known.time.reached in
          let apart : t ≢ s.from.index = λ v. known.different (q ∙ v) in
          let there : IsPathBetween net s.from.index path.places t = subst (IsPathBetween net s.from.index path.places) q path.path in
          subst (λ v. IsAtMostDate (delayed v (x s.from.index k)) z) (sym path.is) (star_waits net x keeps t k z waits_for o path.places s.from.index apart there path.no_tokens);
      entries = λ i e m q few.
          let s : Entry = get_or form.entries i e in
          let known : IsEntry net s = h.entries.known i e m in
          let path = known.time.reached in
          let there : IsPathBetween net s.from.index (path.first ∷ path.others) t = subst (IsPathBetween net s.from.index (path.first ∷ path.others)) q path.path in
          let before : ℕ = k - s.tokens in
          let end : before + tokens_of net (path.first ∷ path.others) ≡ k = omega (arith, few, path.first_tokens, path.no_tokens, sum_by-cons (λ v. (place_at net v).tokens) path.first path.others) in
          subst (λ v. IsAtMostDate (delayed v (x s.from.index before)) z) (sym path.is)
          (path_waits net x keeps t k z waits_for path.first path.others s.from.index before (omega (arith, few)) end there);
    }

  tight : IsTight net u x
  tight = record { tight = λ t k z l o all under. (d t k l o).least z (not_before t k z l o all under) }

  pub by_form_is_least : IsLeastUnder net u x
  by_form_is_least = tight_is_least net u x bound r ends rr feasible tight
