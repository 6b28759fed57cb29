-- The system of a net: its places with the implicit ones, its ranks, and what is released.
use Rattle.std.proofs.Common.{ℕ, ◌+◌, ◌-◌, ◌<◌, ◌≤◌, ◌≡◌, List, map, length, get_or, Option, Some, None, refl, ◌∙◌, arith, inl, inr, ⊎_elim}
use Rattle.std.specs.Prelude.{All, ◌⊎◌, slice_get, IsSomeAnd}
use Rattle.std.specs.List.{range_with_len}
use Rattle.std.proofs.lemmas.Bool.{cases_lt}
use Rattle.std.proofs.lemmas.List.{get_or-append-add, get_or-append_right, length-append, get_or_append_left}
use Rattle.std.proofs.lemmas.List.Elements.{All-append, All-map}
use Rattle.std.proofs.lemmas.List.FromFn.{get_or-range_with_len, length-range_with_len, get_or-map-range_with_len, length-map-range_with_len}
use Rattle.dioid.specs.declared.dates.Date.{Date}
use Rattle.dioid.specs.declared.dates.Date.TheVariants.{Early}
use Rattle.dioid.specs.Dates.{IsAtMostDate}
use Rattle.dioid.proofs.DateOrder.{at_most_trans, same_by_at_most}
use Rattle.teg_net.specs.declared.entries.Role.{Role}
use Rattle.teg_net.specs.declared.entries.Role.TheVariants.{Internal, Input, Output}
use Rattle.teg_net.specs.declared.entries.Transition.{Transition}
use Rattle.teg_net.specs.declared.entries.Place.{Place}
use Rattle.teg_net.specs.Nets.{NetLists, IsInput}
use Rattle.teg_net.specs.Circuits.{no_place}
pub use Rattle.teg_net.proofs.NetRules.{net_ends}
use Rattle.teg_model.specs.Systems.{System, available, IsFeasibleIn, IsLeastIn}
use Rattle.teg_model.specs.LiveRanks.{AreRanks}
use Rattle.teg_model.specs.Datings.{implicit_place, extended_places, IsFeasibleUnder, IsLeastUnder, by_role, by_transition, at_input, system_of}
use Rattle.teg_model.specs.LeastDatings.{AreSameOn, IsTight}
use Rattle.teg_model.proofs.LeastOver.{least_over, least_is_feasible, least_is_tight, least_is_least, least_over_is_least, available_rises}
use Rattle.teg_model.proofs.DateFunctions.{Dating}

-- a fact of each place of the net and of each implicit place
pub all_extended : (net : NetLists) (P : Place → Type 0) → All P net.places → ((t : ℕ) → P (implicit_place t)) → All P (extended_places net)
all_extended net P a b =
    All-append P net.places (map implicit_place (range_with_len 0 (length net.transitions))) a
    (All-map P implicit_place (range_with_len 0 (length net.transitions)) (λ i d l. b (get_or (range_with_len 0 (length net.transitions)) i d)))

pub all_extended_in : (net : NetLists) (P : Place → Type 0) → All P net.places → ((t : ℕ) → t < length net.transitions → P (implicit_place t)) → All P (extended_places net)
all_extended_in net P a b =
    let n : ℕ = length net.transitions in
    All-append P net.places (map implicit_place (range_with_len 0 n)) a
    (All-map P implicit_place (range_with_len 0 n) (λ i d l.
    let low : i < n = omega (arith, l, length-range_with_len 0 n) in
    rw (get_or-range_with_len 0 n i d low) (b (0 + i) (omega arith))))

-- each place of the net, and the implicit place of each transition, is among them
pub extended_has : (net : NetLists) (P : Place → Type 0) → ((i : ℕ) → i < length (extended_places net) → P (get_or (extended_places net) i no_place))
    → (i : ℕ) → i < length net.places → P (get_or net.places i no_place)
extended_has net P all i l =
    let own : List Place = map implicit_place (range_with_len 0 (length net.transitions)) in
    rw (get_or_append_left net.places own no_place i l) at (all i (omega (arith, length-append net.places own)))

pub implicit_is : (net : NetLists) (t : ℕ) → t < length net.transitions
    → (i : ℕ) × (i < length (extended_places net)) × (get_or (extended_places net) i no_place ≡ implicit_place t)
implicit_is net t l =
    let n = length net.transitions in
    let own : List Place = map implicit_place (range_with_len 0 n) in
    let long : length own ≡ n = length-map-range_with_len implicit_place 0 n in
    (length net.places + t, omega (arith, length-append net.places own, long), get_or-append-add net.places own t no_place ∙ get_or-map-range_with_len implicit_place 0 n t t no_place l (omega arith))

-- an extended place is one of the net's, or that of a transition
pub which_place : (net : NetLists) (i : ℕ) → i < length (extended_places net)
    → ((i < length net.places) × (get_or (extended_places net) i no_place ≡ get_or net.places i no_place)) ⊎ ((u : ℕ) × (get_or (extended_places net) i no_place ≡ implicit_place u))
which_place net i l =
    let n : ℕ = length net.transitions in
    let own : List Place = map implicit_place (range_with_len 0 n) in
    let size = length-append net.places own in
    let long = length-map-range_with_len implicit_place 0 n in
    ⊎_elim
    (λ (q : i < length net.places). inl (q, get_or_append_left net.places own no_place i q))
    (λ (q : length net.places ≤ i).
    inr (
      i - length net.places,
      get_or-append_right net.places own (length net.places) i no_place refl q
          ∙ get_or-map-range_with_len implicit_place 0 n (i - length net.places) (i - length net.places) no_place (omega arith) (omega arith),
    ))
    (cases_lt i (length net.places))

-- ranks of the net are ranks along its implicit places too, which have a token
pub ranks_extended : (net : NetLists) (bound : ℕ) (r : ℕ → ℕ) → AreRanks net.places bound r → AreRanks (extended_places net) bound r
ranks_extended net bound r rr = record {
  below = rr.below;
  rise = all_extended net (λ p. p.tokens ≡ 0 → r p.from.index < r p.to.index) rr.rise (λ t e. absurd (omega arith));
}

-- what is released is at most z where an input's date is
by_role_below : (r : Role) (d z : Date) → (r ≡ Input → IsAtMostDate d z) → IsAtMostDate (by_role r d Early) z
by_role_below Internal d z h = tt
by_role_below Output d z h = tt
by_role_below Input d z h = h refl

by_transition_below : (o : Option Transition) (d z : Date) → (IsSomeAnd o (λ x. x.role ≡ Input) → IsAtMostDate d z) → IsAtMostDate (by_transition o d Early) z
by_transition_below None d z h = tt
by_transition_below (Some t) d z h = by_role_below t.role d z h

pub release_below : (net : NetLists) (t : ℕ) (d z : Date) → (IsInput net t → IsAtMostDate d z) → IsAtMostDate (at_input net t d Early) z
release_below net t d z h = by_transition_below (slice_get net.transitions t) d z h

at_transition_is : (o : Option Transition) (a b : Date) → IsSomeAnd o (λ x. x.role ≡ Input) → by_transition o a b ≡ a
at_transition_is None a b e = absurd e
at_transition_is (Some t) a b e = rw e refl

pub at_input_is : (net : NetLists) (t : ℕ) (a b : Date) → IsInput net t → at_input net t a b ≡ a
at_input_is net t a b e = at_transition_is (slice_get net.transitions t) a b e

by_role_kind : (r : Role) (a b c : Date) → ((r ≡ Input) × (by_role r a b ≡ a)) ⊎ ((by_role r a b ≡ b) × (by_role r a c ≡ c))
by_role_kind Internal a b c = inr (refl, refl)
by_role_kind Output a b c = inr (refl, refl)
by_role_kind Input a b c = inl (refl, refl)

by_transition_kind : (o : Option Transition) (a b c : Date) → (IsSomeAnd o (λ x. x.role ≡ Input) × (by_transition o a b ≡ a)) ⊎ ((by_transition o a b ≡ b) × (by_transition o a c ≡ c))
by_transition_kind None a b c = inr (refl, refl)
by_transition_kind (Some t) a b c = by_role_kind t.role a b c

-- a transition is an input or not
pub input_or_not : (net : NetLists) (t : ℕ) (a b c : Date) → (IsInput net t × (at_input net t a b ≡ a)) ⊎ ((at_input net t a b ≡ b) × (at_input net t a c ≡ c))
input_or_not net t a b c = by_transition_kind (slice_get net.transitions t) a b c

-- a dating is feasible in the net just where it is in the system of the net
pub feasible_in : (net : NetLists) (u x : Dating) → IsFeasibleUnder net u x → IsFeasibleIn (system_of net u) x
feasible_in net u x f = record {
  places = f.places;
  releases = λ t k o. release_below net t (u t k) (x t k) (f.inputs t k o);
}

pub feasible_from : (net : NetLists) (u x : Dating) → IsFeasibleIn (system_of net u) x → IsFeasibleUnder net u x
feasible_from net u x f = record {
  places = f.places;
  inputs = λ t k o e. rw (at_input_is net t (u t k) Early e) at (f.releases t k o);
}

pub least_of_system : (net : NetLists) (u x : Dating) → IsLeastIn (system_of net u) x → IsLeastUnder net u x
least_of_system net u x h = record {
  feasible = feasible_from net u x h.feasible;
  least = λ y f t k l o. h.least y (feasible_in net u y f) t k o;
}

-- the least dating of a net
pub least_of : (net : NetLists) (u : Dating) (bound : ℕ) (r : ℕ → ℕ) → AreRanks net.places bound r → IsLeastIn (system_of net u) (least_over (system_of net u) bound r)
least_of net u bound r rr = least_over_is_least (system_of net u) bound r (ranks_extended net bound r rr)

pub only_least : (net : NetLists) (u x y : Dating) → IsLeastUnder net u x → IsLeastUnder net u y → AreSameOn net x y
only_least net u x y a b t k l o = same_by_at_most (x t k) (y t k) (a.least y b.feasible t k l o) (b.least x a.feasible t k l o)

-- each least dating is the one that is made by rounds
pub least_is_over : (net : NetLists) (u x : Dating) (bound : ℕ) (r : ℕ → ℕ) → AreRanks net.places bound r → IsLeastUnder net u x → AreSameOn net (least_over (system_of net u) bound r) x
least_is_over net u x bound r rr h t k l o =
    only_least net u (least_over (system_of net u) bound r) x (least_of_system net u (least_over (system_of net u) bound r) (least_of net u bound r rr)) h t k l o

-- each least dating is tight
pub tight_of_least : (net : NetLists) (u x : Dating) (bound : ℕ) (r : ℕ → ℕ) → AreRanks net.places bound r → IsLeastUnder net u x → IsTight net u x
tight_of_least net u x bound r rr h = record {
  tight = λ t k z l o all under.
      let s : System = system_of net u in
      let lo : Dating = least_over s bound r in
      let re = ranks_extended net bound r rr in
      at_most_trans (x t k) (lo t k) z (h.least lo (feasible_from net u lo (least_is_feasible s bound r re)) t k l o)
      (least_is_tight s bound r re t k z
      (λ i d m q. at_most_trans (available s lo (get_or (extended_places net) i d) k) (available s x (get_or (extended_places net) i d) k) z
      (available_rises s.initial lo x (get_or (extended_places net) i d) k (λ j one. least_is_least s bound r x (feasible_in net u x h.feasible) (get_or (extended_places net) i d).from.index j one))
      (all i d m q))
      (release_below net t (u t k) z under));
}
