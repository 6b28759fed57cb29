-- A window in which the least dating of a net moves by steps shows that it moves by them for ever. The releases of the inputs are
-- taken to be the least dates there, which move as they do.
use Rattle.std.proofs.Common.{ℕ, ℤ, zero, suc, ◌+◌, ◌-◌, ◌<◌, ◌≤◌, ◌≡◌, length, get_or, sym, ap, subst, ◌∙◌, arith, ⊎_elim, inl, inr}
use Rattle.std.specs.Prelude.{◌≤ℤ◌, All}
use Rattle.std.proofs.lemmas.Bool.{cases_lt}
use Rattle.std.proofs.lemmas.Int.{ints}
use Rattle.std.proofs.lemmas.Option.{slice_get_past}
use Rattle.dioid.specs.declared.dates.Date.{Date}
use Rattle.dioid.specs.declared.dates.Date.TheVariants.{Early, Never}
use Rattle.dioid.specs.Dates.{IsAtMostDate, later_of, move}
use Rattle.dioid.proofs.DateOrder.{at_most_refl, at_most_trans, at_most_is, same_by_at_most, at_most_early, later_left, later_right, later_least}
use Rattle.dioid.proofs.Moves.{later_move}
use Rattle.teg_net.specs.declared.entries.Place.{Place}
use Rattle.teg_net.specs.Nets.{NetLists, IsNet, IsInput}
use Rattle.teg_model.specs.Systems.{System}
use Rattle.teg_model.specs.LiveRanks.{AreRanks, HasEndsInRange}
use Rattle.teg_model.specs.Datings.{IsLeastUnder, extended_places, available_at, initial_date, at_input, system_of}
use Rattle.teg_model.specs.LeastDatings.{IsTight}
use Rattle.teg_model.proofs.DateFunctions.{Dating}
use Rattle.teg_model.proofs.LeastOver.{least_over, least_is_tight}
use Rattle.teg_model.proofs.LiveRanks.{live_is_ranked}
use Rattle.teg_model.proofs.OfNet.{all_extended, all_extended_in, at_input_is, input_or_not, least_is_over, least_of, least_of_system, ranks_extended, tight_of_least}
use Rattle.teg_model.proofs.Tokens.{implicit_gives, dates_climb}
use Rattle.settled_laws.specs.SettledForms.{RepeatsAfter}
use Rattle.settled_laws.proofs.Everywhere.{Climbing, Repeats, on_first, same_repeats}
use Rattle.settled_laws.proofs.Settling.{HasNoRelease}
use Rattle.settled_laws.proofs.Seen.{IsRisingAt, IsAlike, accepted_repeats}
use Rattle.settled_certificates.specs.SettledWindows.{EntersNoInput, MovesInWindow, WindowsGoOn}

-- the least dating under the releases is the least under its own dates at the inputs
own_least : (net : NetLists) (u x : Dating) → IsLeastUnder net u x → IsLeastUnder net x x
own_least net u x h = record {
  feasible = record { places = h.feasible.places; inputs = λ t k o i. at_most_refl (x t k) };
  least = λ y f t k l o. h.least y (record {
    places = f.places;
    inputs = λ t k o i. at_most_trans (u t k) (x t k) (y t k) (h.feasible.inputs t k o i) (f.inputs t k o i);
  }) t k l o;
}

-- no place of a net enters an input
pub net_clear : (net : NetLists) → IsNet net → EntersNoInput net
net_clear net ok i d l = (ok.each_place i d l).enters_no_input

-- an input waits for the firing before and for its release
input_next : (net : NetLists) → EntersNoInput net → (u x : Dating) → IsLeastUnder net u x → IsTight net u x → (t k : ℕ) → t < length net.transitions → IsInput net t → 1 ≤ k
    → x t (k + 1) ≡ later_of (x t k) (u t (k + 1))
input_next net clear u x h tight t k l i o =
    let z : Date = later_of (x t k) (u t (k + 1)) in
    same_by_at_most (x t (k + 1)) z
    (tight.tight t (k + 1) z l (omega arith)
    (all_extended_in net (λ p. p.to.index ≡ t → IsAtMostDate (available_at x p (k + 1)) z)
    (λ j d m q. absurd (clear j d m (subst (IsInput net) (sym q) i)))
    (λ v m q. rw (implicit_gives initial_date x v k o, q) (later_left (x t k) (u t (k + 1)))))
    (λ e. later_right (x t k) (u t (k + 1))))
    (later_least (x t k) (u t (k + 1)) (x t (k + 1)) (dates_climb net u x h.feasible t k l o) (h.feasible.inputs t (k + 1) (omega arith) i))

module _ (net : NetLists) (in_net : HasEndsInRange net) (clear : EntersNoInput net) (u x : Dating) (h : IsLeastUnder net u x) (bound : ℕ) (r : ℕ → ℕ) (rr : AreRanks net.places bound r)
    (after period last : ℕ) (step : ℕ → ℤ) (w : MovesInWindow net u x after period last step) where
  abbrev n : ℕ
  n = length net.transitions

  abbrev sys : System
  sys = system_of net x

  abbrev z : Dating
  z = least_over (system_of net x) bound r

  is_least : IsLeastUnder net x (least_over (system_of net x) bound r)
  is_least = least_of_system net x (least_over (system_of net x) bound r) (least_of net x bound r rr)

  same : (t k : ℕ) → t < length net.transitions → 1 ≤ k → least_over (system_of net x) bound r t k ≡ x t k
  same = least_is_over net x x bound r rr (own_least net u x h)

  -- each input moves by its step for ever
  input_moves : (t : ℕ) → t < length net.transitions → IsInput net t → (m k : ℕ) → k ≤ m → after < k → x t (k + period) ≡ move (step t) (x t k)
  input_moves t l i zero k q a = absurd (omega (arith, q, a))
  input_moves t l i (suc m) k q a =
      let one = w.at_least_one in
      let room = w.two_periods in
      ⊎_elim
      (λ (far : last < k + period).
      let j : ℕ = k - 1 in
      let k_is : j + 1 ≡ k = omega (arith, a) in
      let before = input_moves t l i m j (omega (arith, q, a)) (omega (arith, far, room, one)) in
      let tight = tight_of_least net u x bound r rr h in
      let back : (j + period) + 1 ≡ k + period = omega (arith, a) in
      let released : u t ((j + period) + 1) ≡ move (step t) (u t (j + 1)) = rw (back, k_is) (w.releases t k i a) in
      let high = input_next net clear u x h tight t (j + period) l i (omega (arith, one)) in
      let low = input_next net clear u x h tight t j l i (omega (arith, far, room, one)) in
      let moved : x t ((j + period) + 1) ≡ move (step t) (x t (j + 1)) =
      high ∙ (ap (λ d. later_of d (u t ((j + period) + 1))) before ∙ (ap (later_of (move (step t) (x t j))) released
      ∙ (later_move (step t) (x t j) (u t (j + 1)) ∙ ap (move (step t)) (sym low)))) in
      rw (back, k_is) at moved)
      (λ (near : k + period ≤ last). w.moves t k l a near)
      (cases_lt last (k + period))

  no_input_outside : (t : ℕ) → length net.transitions ≤ t → (d : Date) → at_input net t d Early ≡ Early
  no_input_outside t l d =
      ⊎_elim
      (λ i. absurd (rw (slice_get_past net.transitions t l) at i.0))
      (λ e. e.0)
      (input_or_not net t d Early Early)

  outside : (t k : ℕ) → length net.transitions ≤ t → least_over (system_of net x) bound r t k ≡ Early
  outside t k l =
      let ends : All (λ p. p.to.index < length net.transitions) (extended_places net) =
      all_extended_in net (λ p. p.to.index < length net.transitions) (λ i d m. (in_net i d m).1) (λ v m. m) in
      at_most_early (z t k)
      (least_is_tight sys bound r (ranks_extended net bound r rr) t k Early
      (λ i d m e. let in' = ends i d m in absurd (omega (arith, in', e, l)))
      (rw (no_input_outside t l (x t k)) tt))

  climbs : Climbing (least_over (system_of net x) bound r)
  climbs = record {
    climbs = λ t k o. ⊎_elim
        (λ (l : t < n). dates_climb net x z is_least.feasible t k l o)
        (λ (l : n ≤ t). rw (outside t k l) tt)
        (cases_lt t n);
  }

  alike_input : (t : ℕ) → t < length net.transitions → IsInput net t → IsAlike (system_of net x) (least_over (system_of net x) bound r) after period step t
  alike_input t l i = inr (
    λ k o. same t k l o ∙ sym (at_input_is net t (x t k) Early i),
    λ k a. at_input_is net t (x t (k + period)) Early i
        ∙ (input_moves t l i k k (omega arith) a ∙ ap (move (step t)) (sym (at_input_is net t (x t k) Early i))),
  )

  alike_other : (t : ℕ) → at_input net t Never Early ≡ Early → HasNoRelease (system_of net x) t
  alike_other t e k o =
      ⊎_elim
      (λ i. let never = at_input_is net t Never Early i.0 in absurd (at_most_is Never Early (sym never ∙ e)))
      (λ s. s.0)
      (input_or_not net t (x t k) Early Early)

  alike : (t : ℕ) → IsAlike (system_of net x) (least_over (system_of net x) bound r) after period step t
  alike t =
      ⊎_elim
      (λ (l : t < n). ⊎_elim (λ i. alike_input t l i.0) (λ e. inl (alike_other t e.0)) (input_or_not net t Never Early Early))
      (λ (l : n ≤ t). inl (λ k o. no_input_outside t l (x t k)))
      (cases_lt t n)

  pub goes_on : RepeatsAfter (length net.transitions) x after period step
  goes_on =
      let one = w.at_least_one in
      let room = w.two_periods in
      let most : ℕ = last - after - period - period in
      let end : ℕ = after + most + period + period in
      let end_is : end ≡ last = omega (arith, room) in
      let repeats : Repeats z after period step =
      accepted_repeats sys bound r after period most step (ranks_extended net bound r rr) climbs one (omega (arith, room))
      (all_extended net (λ p. p.tokens ≤ most) (λ i d l. let few = w.tokens i d l in omega (arith, few)) (λ t. omega (arith, room)))
      (λ t k a fits.
      ⊎_elim
      (λ (l : t < n).
      same t (k + period) l (omega (arith, a)) ∙ (w.moves t k l a (omega (arith, end_is, fits)) ∙ ap (move (step t)) (sym (same t k l (omega (arith, a))))))
      (λ (l : n ≤ t). outside t (k + period) l ∙ sym (ap (move (step t)) (outside t k l)))
      (cases_lt t n))
      (all_extended net (IsRisingAt z end step)
      (λ i d l.
      let p : Place = get_or net.places i d in
      let p_in = in_net i d l in
      let at : (t : ℕ) → t < n → z t end ≡ x t last = λ t m. same t end m (omega (arith, room)) ∙ ap (x t) end_is in
      ⊎_elim
      (λ (e : x p.to.index last ≡ Never). inl (at p.to.index p_in.1 ∙ e))
      (λ b. ⊎_elim
      (λ (e : x p.from.index last ≡ Early). inr (inl (at p.from.index p_in.0 ∙ e)))
      (λ (e : step p.from.index ≤ℤ step p.to.index). inr (inr e))
      b)
      (w.rises i d l))
      (λ t. inr (inr (omega (arith, ints)))))
      alike in
      same_repeats n z x after period step same (on_first n z after period step repeats)

pub windows_go_on : WindowsGoOn
windows_go_on net ends clear live u x h after period last step w =
    let ranked = live_is_ranked net ends live in
    goes_on net ends clear u x h ranked.0 ranked.1 ranked.2 after period last step w
