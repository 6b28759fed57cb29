-- The system of a net's own releases has the least dating of the net.
use Rattle.std.proofs.Common.{ℕ, ◌<◌, ◌≤◌, ◌≡◌, length, Option, Some, None, refl, sym, ap, subst, ◌∙◌, arith, ⊎_elim}
use Rattle.std.specs.Prelude.{slice_get, IsSomeAnd, ◌==◌}
use Rattle.std.proofs.lemmas.Bool.{cases_lt}
use Rattle.std.proofs.lemmas.List.{get_or_past}
use Rattle.std.proofs.lemmas.List.Folds.{find_at}
use Rattle.std.proofs.lemmas.Option.{slice_get_past}
use Rattle.dioid.specs.declared.dates.Date.TheVariants.{Early}
use Rattle.teg_net.specs.declared.entries.Role.{Role}
use Rattle.teg_net.specs.declared.entries.Role.TheVariants.{Internal, Input, Output}
use Rattle.teg_net.specs.declared.entries.Transition.{Transition}
use Rattle.teg_net.specs.Nets.{NetLists, IsInput}
use Rattle.teg_net.specs.Inputs.{date_by_list}
use Rattle.periodic_laws.specs.teg_model.Systems.{IsFeasibleIn, IsLeastIn}
use Rattle.periodic_laws.specs.teg_model.Datings.{as_date, listed_releases, by_role, by_transition, at_input, system_of, system_with, IsLeastDating}
use Rattle.periodic_laws.proofs.teg_model_proofs.OfNet.{least_of_system}
use Rattle.periodic_laws.proofs.teg_model_proofs.DateFunctions.{Dating, InitialDates}
use Rattle.teg_settle.specs.declared.releases.Tokens.TheVariants.{Ready}
use Rattle.teg_settle.specs.declared.releases.Wait.{Wait}
use Rattle.teg_settle.specs.declared.releases.Wait.TheVariants.{Nothing, Dates}
use Rattle.teg_settle.specs.declared.releases.Releases.{Releases}
use Rattle.list_spans.specs.ListDates.{date_of_list, list_number}
use Rattle.teg_settle.specs.InitialReleases.{initial_by, release_as, wait_in, release_by, system_for, AreWaits, wait_by_role, wait_by, wait_of, OnlyInputsWait}

-- releases that are one give one least dating
feasible_same : (net : NetLists) (init : InitialDates) (rel other x : Dating) → ((t k : ℕ) → rel t k ≡ other t k)
    → IsFeasibleIn (system_with net init rel) x → IsFeasibleIn (system_with net init other) x
feasible_same net init rel other x same f = record {
  places = f.places;
  releases = λ t k o. rw (← same t k) (f.releases t k o);
}

pub least_same : (net : NetLists) (init : InitialDates) (rel other x : Dating) → ((t k : ℕ) → rel t k ≡ other t k) → IsLeastIn (system_with net init rel) x → IsLeastIn (system_with net init other) x
least_same net init rel other x same h = record {
  feasible = feasible_same net init rel other x same h.feasible;
  least = λ y f t k o. h.least y (feasible_same net init other rel y (λ u j. sym (same u j)) f) t k o;
}

by_role_is : (net : NetLists) (r : Role) (list k : ℕ) → release_as net (wait_by_role r list) k ≡ by_role r (date_of_list net list k) Early
by_role_is net Internal list k = refl
by_role_is net Input list k = refl
by_role_is net Output list k = refl

by_transition_is : (net : NetLists) (o : Option Transition) (list k : ℕ) → release_as net (wait_by o list) k ≡ by_transition o (date_of_list net list k) Early
by_transition_is net None list k = refl
by_transition_is net (Some t) list k = by_role_is net t.role list k

-- each release is that of the net's lists
own_release : (net : NetLists) (r : Releases) → AreWaits net (wait_of net) r.waits.items → (t k : ℕ) → release_by r.waits.items net t k ≡ at_input net t (listed_releases net t k) Early
own_release net r w t k =
    ⊎_elim
    (λ (l : t < length net.transitions).
    let found : date_of_list net (list_number net t) k ≡ listed_releases net t k = ap (λ o. as_date (date_by_list o k)) (sym (find_at (λ l. l.transition.index == t) net.inputs)) in
    ap (λ z. release_as net z k) (w.each t l) ∙ (by_transition_is net (slice_get net.transitions t) (list_number net t) k ∙ ap (λ d. at_input net t d Early) found))
    (λ (l : length net.transitions ≤ t).
    let none : slice_get net.transitions t ≡ None = slice_get_past net.transitions t l in
    let past : wait_in r.waits.items t ≡ Nothing = get_or_past r.waits.items t Nothing (omega (arith, w.count)) in
    ap (λ z. release_as net z k) past ∙ sym (ap (λ o. by_transition o (listed_releases net t k) Early) none))
    (cases_lt t (length net.transitions))

-- the least dating is that of the net's own system
pub own_system : (net : NetLists) (r : Releases) → r.tokens ≡ Ready → AreWaits net (wait_of net) r.waits.items → (x : Dating)
    → IsLeastIn (system_for r net) x → IsLeastIn (system_of net (listed_releases net)) x
own_system net r ready w x h =
    let rel : Dating = release_by r.waits.items net in
    let here : IsLeastIn (system_with net (initial_by Ready) rel) x = subst (λ t. IsLeastIn (system_with net (initial_by t) rel) x) ready h in
    least_same net (initial_by Ready) rel (λ t k. at_input net t (listed_releases net t k) Early) x (own_release net r w) here

pub own_least : (net : NetLists) (r : Releases) → r.tokens ≡ Ready → AreWaits net (wait_of net) r.waits.items → (x : Dating) → IsLeastIn (system_for r net) x → IsLeastDating net x
own_least net r ready w x h = least_of_system net (listed_releases net) x (own_system net r ready w x h)

waits_as_role : (r : Role) (list number : ℕ) → wait_by_role r number ≡ Dates list → r ≡ Input
waits_as_role Internal list number e = absurd (cc)
waits_as_role Input list number e = refl
waits_as_role Output list number e = absurd (cc)

waits_as_input : (o : Option Transition) (list number : ℕ) → wait_by o number ≡ Dates list → IsSomeAnd o (λ x. x.role ≡ Input)
waits_as_input None list number e = absurd (cc)
waits_as_input (Some t) list number e = waits_as_role t.role list number e

-- what waits is a transition of the net
pub waits_within : (net : NetLists) (f : ℕ → Wait) (r : Releases) → AreWaits net f r.waits.items → ((t list : ℕ) → f t ≡ Dates list → IsInput net t) → OnlyInputsWait net r.waits.items
waits_within net f r w inputs = record {
  count = w.count;
  inputs = λ t list e.
      ⊎_elim
      (λ (l : t < length net.transitions). inputs t list (sym (w.each t l) ∙ e))
      (λ (l : length net.transitions ≤ t).
      let past : wait_in r.waits.items t ≡ Nothing = get_or_past r.waits.items t Nothing (omega (arith, w.count)) in
      let no : Nothing ≡ Dates list = sym past ∙ e in
      absurd (cc))
      (cases_lt t (length net.transitions));
}

pub own_waits : (net : NetLists) (r : Releases) → AreWaits net (wait_of net) r.waits.items → OnlyInputsWait net r.waits.items
own_waits net r w = waits_within net (wait_of net) r w (λ t list e. waits_as_input (slice_get net.transitions t) list (list_number net t) e)
