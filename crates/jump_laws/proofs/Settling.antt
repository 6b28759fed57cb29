-- Where no step falls in the last turn of a window, each transition has one step: the dates settle.
use Rattle.std.proofs.Common.{ℕ, ℤ, zero, suc, pos, ◌+◌, ◌-◌, ◌*◌, ◌/◌, ◌<◌, ◌≤◌, ◌≡◌, length, sym, ap, subst, ◌∙◌, arith, ⊎_elim, inl, inr}
use Rattle.std.specs.Prelude.{◌*ℤ◌, ◌≤ℤ◌, ◌⊎◌}
use Rattle.std.proofs.lemmas.Bool.{cases_lt}
use Rattle.std.proofs.lemmas.Int.{ints}
use Rattle.std.proofs.Math.Nat.{mul-le-mul}
use Rattle.dioid.specs.declared.dates.Date.TheVariants.{Early, Never}
use Rattle.dioid.specs.Dates.{IsAtMostDate, move}
use Rattle.dioid.proofs.DateOrder.{at_most_refl, at_most_trans, at_least_never}
use Rattle.dioid.proofs.Moves.{moved_to_never}
use Rattle.teg_net.specs.Circuits.{no_place}
use Rattle.teg_net.specs.Nets.{NetLists}
use Rattle.teg_model.specs.Datings.{IsLeastUnder, available_at, initial_date, implicit_place}
use Rattle.teg_model.proofs.DateFunctions.{Dating}
use Rattle.teg_model.proofs.OfNet.{implicit_is}
use Rattle.teg_model.proofs.Tokens.{dates_climb, implicit_gives, not_before_zero}
use Rattle.settled_laws.proofs.Telling.{back_in}
use Rattle.jump_laws.specs.Jumps.{MovesInTurns, MovesForEver, NoneFalls, NoneFallsAlong, NoFallSettles}
use Rattle.jump_laws.proofs.Turns.{step_on, turns_on}
use Rattle.jump_laws.proofs.InNets.{for_ever}

module _ (net : NetLists) (u x : Dating) (h : IsLeastUnder net u x) (after turn last : ℕ) (step pace : ℕ → ℕ → ℤ)
    (w : MovesInTurns net x after turn last step) (none : NoneFalls net u x turn last step pace)
    (ever : MovesForEver (length net.transitions) x after turn step) (t : ℕ) (l : t < length net.transitions) where
  climbs_by : (k j : ℕ) → 1 ≤ k → IsAtMostDate (x t k) (x t (k + j))
  climbs_by k zero o =
      let is : k + 0 ≡ k = omega arith in
      rw is (at_most_refl (x t k))
  climbs_by k (suc j) o =
      let is : k + suc j ≡ (k + j) + 1 = omega arith in
      rw is (at_most_trans (x t k) (x t (k + j)) (x t ((k + j) + 1)) (climbs_by k j o) (dates_climb net u x h.feasible t (k + j) l (omega (arith, o))))

  climbs_to : (k j : ℕ) → 1 ≤ k → k ≤ j → IsAtMostDate (x t k) (x t j)
  climbs_to k j o m =
      let is : k + (j - k) ≡ j = omega (arith, m) in
      rw is at (climbs_by k (j - k) o)

  -- from one number of the last turn to the next the step does not fall, unless all is never
  next_rises : (s : ℕ) → last < (s + 1) + turn → s + 1 ≤ last → (x t last ≡ Never) ⊎ (step t s ≤ℤ step t (s + 1))
  next_rises s a m =
      let room = w.two_turns in
      let one = w.at_least_one in
      let own = implicit_is net t l in
      let some : 1 ≤ s = omega (arith, a, room, one) in
      let here : NoneFallsAlong step (implicit_place t) (s + 1) (available_at x (implicit_place t) (s + 1)) (x t (s + 1)) =
      subst (λ p. NoneFallsAlong step p (s + 1) (available_at x p (s + 1)) (x p.to.index (s + 1))) own.2 (none.places (s + 1) a m own.0 no_place own.1) in
      let back : (s + 1) - 1 ≡ s = omega arith in
      ⊎_elim
      (λ (e : available_at x (implicit_place t) (s + 1) ≡ Early).
      let early : x t s ≡ Early = sym (implicit_gives initial_date x t s some) ∙ e in
      absurd (rw early at (not_before_zero net u x h.feasible t s l some)))
      (λ (b : (x t (s + 1) ≡ Never) ⊎ (step t ((s + 1) - 1) ≤ℤ step t (s + 1))).
      ⊎_elim
      (λ (e : x t (s + 1) ≡ Never). inl (at_least_never (x t last) (rw e at (climbs_to (s + 1) last (omega arith) m))))
      (λ (r : step t ((s + 1) - 1) ≤ℤ step t (s + 1)). inr (rw back at r))
      b)
      here

  both : (a b c : ℤ) → (x t last ≡ Never) ⊎ (a ≤ℤ b) → (x t last ≡ Never) ⊎ (b ≤ℤ c) → (x t last ≡ Never) ⊎ (a ≤ℤ c)
  both a b c p q =
      ⊎_elim
      (λ (e : x t last ≡ Never). inl e)
      (λ (r : a ≤ℤ b). ⊎_elim (λ (e : x t last ≡ Never). inl e) (λ (v : b ≤ℤ c). inr (omega (arith, ints, r, v))) q)
      p

  up_to_last : (d : ℕ) → d ≤ turn → (x t last ≡ Never) ⊎ (step t (last - d) ≤ℤ step t last)
  up_to_last zero m =
      let is : last - 0 ≡ last = omega arith in
      rw is (inr (omega (arith, ints)))
  up_to_last (suc d) m =
      let room = w.two_turns in
      let is : (last - suc d) + 1 ≡ last - d = omega (arith, m, room) in
      both (step t (last - suc d)) (step t (last - d)) (step t last)
      (rw is at (next_rises (last - suc d) (omega (arith, m, room)) (omega (arith, m, room))))
      (up_to_last d (omega (arith, m)))

  from_first : (e : ℕ) → e ≤ turn → (x t last ≡ Never) ⊎ (step t (last - turn) ≤ℤ step t ((last - turn) + e))
  from_first zero m =
      let is : (last - turn) + 0 ≡ last - turn = omega arith in
      rw is (inr (omega (arith, ints)))
  from_first (suc e) m =
      let room = w.two_turns in
      let is : (last - turn) + suc e ≡ ((last - turn) + e) + 1 = omega arith in
      both (step t (last - turn)) (step t ((last - turn) + e)) (step t ((last - turn) + suc e))
      (from_first e (omega (arith, m)))
      (rw is (next_rises ((last - turn) + e) (omega (arith, room)) (omega (arith, m, room))))

  -- so all steps of the turn are one
  one_step : (c : ℕ) → last < c + turn → c ≤ last → (x t last ≡ Never) ⊎ (step t c ≡ step t last)
  one_step c a m =
      let room = w.two_turns in
      let whole : (last - turn) + turn ≡ last = omega (arith, room) in
      let first : step t last ≡ step t (last - turn) = ap (step t) (sym whole) ∙ w.residues t (last - turn) in
      let high : last - (last - c) ≡ c = omega (arith, m) in
      let low : (last - turn) + (c + turn - last) ≡ c = omega (arith, a, room) in
      ⊎_elim
      (λ (e : x t last ≡ Never). inl e)
      (λ (p : step t (last - (last - c)) ≤ℤ step t last).
      ⊎_elim
      (λ (e : x t last ≡ Never). inl e)
      (λ (q : step t (last - turn) ≤ℤ step t ((last - turn) + (c + turn - last))).
      let above : step t c ≤ℤ step t last = rw high at p in
      let below : step t (last - turn) ≤ℤ step t c = rw low at q in
      inr (omega (arith, ints, above, below, first)))
      (from_first (c + turn - last) (omega (arith, m))))
      (up_to_last (last - c) (omega (arith, a)))

  -- and those of all numbers
  same_step_at : (k : ℕ) → (x t last ≡ Never) ⊎ (step t k ≡ step t last)
  same_step_at k =
      let room = w.two_turns in
      let one = w.at_least_one in
      ⊎_elim
      (λ (q : last < k).
      let j : ℕ = (k - ((last - turn) + turn) - 1) / turn + 1 in
      let found = back_in (last - turn) turn k one (omega (arith, q, room)) in
      let on : step t k ≡ step t (k - j * turn) = ap (step t) (sym found.2) ∙ step_on turn (step t) (w.residues t) (k - j * turn) j in
      ⊎_elim
      (λ (e : x t last ≡ Never). inl e)
      (λ (e : step t (k - j * turn) ≡ step t last). inr (on ∙ e))
      (one_step (k - j * turn) (omega (arith, found.0, room)) (omega (arith, found.1, room))))
      (λ (q : k ≤ last).
      let j : ℕ = (last - k) / turn in
      let prod : j * turn ≡ turn * j = grind arith in
      let on : step t (k + j * turn) ≡ step t k = step_on turn (step t) (w.residues t) k j in
      ⊎_elim
      (λ (e : x t last ≡ Never). inl e)
      (λ (e : step t (k + j * turn) ≡ step t last). inr (sym on ∙ e))
      (one_step (k + j * turn) (omega (arith, prod, q, one)) (omega (arith, prod, q, one))))
      (cases_lt last k)

  never_all : x t last ≡ Never → (k : ℕ) → after < k → x t k ≡ Never
  never_all e k a =
      let one = w.at_least_one in
      let much : last * 1 ≤ last * turn = mul-le-mul {n₁ = last} {m₁ = 1} {n₂ = last} {m₂ = turn} (omega arith) one in
      let is : last * 1 ≡ last = grind arith in
      let room = w.two_turns in
      let far : x t (k + last * turn) ≡ Never = at_least_never (x t (k + last * turn)) (rw e at (climbs_to last (k + last * turn) (omega (arith, room)) (omega (arith, much, is)))) in
      let on = turns_on (x t) after turn (k + last * turn) (step t) (w.residues t) (λ i b f. ever t l i b) k last a (omega arith) in
      moved_to_never (pos last *ℤ step t k) (x t k) (sym on ∙ far)

  pub again : (k : ℕ) → after < k → x t (k + turn) ≡ move (step t last) (x t k)
  again k a =
      ever t l k a
      ∙ ⊎_elim
      (λ (e : x t last ≡ Never). let all = never_all e k a in ap (move (step t k)) all ∙ sym (ap (move (step t last)) all))
      (λ (e : step t k ≡ step t last). ap (λ z. move z (x t k)) e)
      (same_step_at k)

pub settles : NoFallSettles
settles net ends live u x h after turn last step pace w paces releases none =
    let ever = for_ever net ends live u x h after turn last step pace w paces releases none in
    record {
      at_least_one = w.at_least_one;
      again = λ t k l a. again net u x h after turn last step pace w none ever t l k a;
    }
