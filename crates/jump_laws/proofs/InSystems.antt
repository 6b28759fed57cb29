-- In a system, dates that move by the steps of their residues in a window do so for as many turns more as are free of
-- overtakings, and no more.
use Rattle.std.proofs.Common.{ℕ, ℤ, suc, pos, ◌+◌, ◌-◌, ◌*◌, ◌/◌, ◌<◌, ◌≤◌, ◌≡◌, length, get_or, refl, sym, ap, subst, ◌∙◌, arith, ⊎_elim, inl, inr}
use Rattle.std.specs.Prelude.{◌*ℤ◌, ◌⊎◌}
use Rattle.std.proofs.lemmas.Bool.{cases_lt}
use Rattle.std.proofs.Math.Nat.{mul-le-mul, mul-le-mul_right}
use Rattle.dioid.specs.declared.dates.Date.{Date}
use Rattle.dioid.specs.Dates.{IsAtMostDate, delayed, move}
use Rattle.dioid.proofs.Moves.{delayed_move}
use Rattle.teg_net.specs.declared.entries.Place.{Place}
use Rattle.teg_net.specs.Circuits.{no_place}
use Rattle.teg_model.specs.Systems.{System, available, available_in, IsLeastIn}
use Rattle.teg_model.specs.LiveRanks.{AreRanks}
use Rattle.teg_model.proofs.DateFunctions.{Dating, InitialDates}
use Rattle.teg_model.proofs.LeastOver.{least_over, least_is_attained, least_over_is_least, only_least_in, tight_in}
use Rattle.teg_model.proofs.Tokens.{available_after, available_same}
use Rattle.settled_laws.proofs.Telling.{back_in}
use Rattle.jump_laws.specs.Jumps.{MovesTo, IsJumpIn, DatesJumpIn, JumpsEndAtOvertakingsIn, NoFallIsForEverIn}
use Rattle.jump_laws.proofs.Turns.{turns_on, between_turns, none_falls_on, together_on}
use Rattle.jump_laws.proofs.Going.{gone, gone_in, gone_moves}
use Rattle.jump_laws.proofs.FirstNumbers.{IsThereBy, IsLatest, first_numbers}

-- when the token of a place is there some turns on
pub token_on : (init : InitialDates) (y : Dating) (after turn last : ℕ) (s : ℕ → ℤ) (p : Place) → ((k : ℕ) → s (k + turn) ≡ s k) → MovesTo (y p.from.index) after turn last s
    → (k j : ℕ) → after + p.tokens < k → k + j * turn ≤ last → available_in init y p (k + j * turn) ≡ move (pos j *ℤ s (k - p.tokens)) (available_in init y p k)
token_on init y after turn last s p residues moves k j a m =
    let at : (k + j * turn) - p.tokens ≡ (k - p.tokens) + j * turn = omega (arith, a) in
    let own = turns_on (y p.from.index) after turn last s residues moves (k - p.tokens) j (omega (arith, a)) (omega (arith, m)) in
    available_after init y p (k + j * turn) (y p.from.index ((k - p.tokens) + j * turn)) (omega (arith, a)) (ap (y p.from.index) at)
    ∙ (ap (delayed p.hold) own
    ∙ (delayed_move p.hold (pos j *ℤ s (k - p.tokens)) (y p.from.index (k - p.tokens))
    ∙ ap (move (pos j *ℤ s (k - p.tokens))) (sym (available_after init y p k (y p.from.index (k - p.tokens)) (omega (arith, a)) refl))))

-- and one turn on
token_next : (init : InitialDates) (x : Dating) (after turn last : ℕ) (s : ℕ → ℤ) (p : Place) → ((k : ℕ) → s (k + turn) ≡ s k) → MovesTo (x p.from.index) after turn last s
    → (c : ℕ) → after + p.tokens < c → c + turn ≤ last → available_in init x p (c + turn) ≡ move (s ((c + turn) - p.tokens)) (available_in init x p c)
token_next init x after turn last s p residues moves c a m =
    let at : (c + turn) - p.tokens ≡ (c - p.tokens) + turn = omega (arith, a) in
    let residue : s ((c + turn) - p.tokens) ≡ s (c - p.tokens) = ap s at ∙ residues (c - p.tokens) in
    let own = moves (c - p.tokens) (omega (arith, a)) (omega (arith, m)) in
    available_after init x p (c + turn) (x p.from.index ((c - p.tokens) + turn)) (omega (arith, a)) (ap (x p.from.index) at)
    ∙ (ap (delayed p.hold) own
    ∙ (delayed_move p.hold (s (c - p.tokens)) (x p.from.index (c - p.tokens))
    ∙ (ap (move (s (c - p.tokens))) (sym (available_after init x p c (x p.from.index (c - p.tokens)) (omega (arith, a)) refl))
    ∙ ap (λ z. move z (available_in init x p c)) (sym residue))))

-- a place has its token just when the firing comes
pub record IsMetBy (s : System) (x : Dating) (t k i : ℕ) : Type 0 where
  pub within : i < length s.places
  pub ends : (get_or s.places i no_place).to.index ≡ t
  pub same : x t k ≡ available s x (get_or s.places i no_place) k

least_is_met : (s : System) (bound : ℕ) (r : ℕ → ℕ) → AreRanks s.places bound r → (x : Dating) → IsLeastIn s x
    → (t k : ℕ) → 1 ≤ k → ((i : ℕ) × IsMetBy s x t k i) ⊎ (x t k ≡ s.release t k)
least_is_met s bound r rr x h t k o =
    let lo : Dating = least_over s bound r in
    let same : (t k : ℕ) → 1 ≤ k → lo t k ≡ x t k = only_least_in s lo x (least_over_is_least s bound r rr) h in
    ⊎_elim
    (λ (e : lo t k ≡ s.release t k). inr (sym (same t k o) ∙ e))
    (λ (a : (i : ℕ) × (i < length s.places) × ((get_or s.places i no_place).to.index ≡ t) × (lo t k ≡ available s lo (get_or s.places i no_place) k)).
    let p : Place = get_or s.places a.0 no_place in
    inl (
      a.0,
      record {
        within = a.1;
        ends = a.2;
        same = sym (same t k o) ∙ (a.3 ∙ available_same s.initial lo x p k (λ m. same p.from.index (k - p.tokens) (omega (arith, m))));
      },
    ))
    (least_is_attained s bound r rr t k)

module _ (s : System) (bound : ℕ) (r : ℕ → ℕ) (rr : AreRanks s.places bound r) (x : Dating) (h : IsLeastIn s x)
    (after turn last turns : ℕ) (step pace : ℕ → ℕ → ℤ) (w : IsJumpIn s x after turn last turns step pace) where
  abbrev y : Dating
  y = gone x last turn step

  y_in : (t k : ℕ) → k ≤ last → gone x last turn step t k ≡ x t k
  y_in t k l = gone_in x last turn step t k l

  y_moves : (t end : ℕ) → MovesTo (gone x last turn step t) after turn end (step t)
  y_moves t end k a m = gone_moves x after last turn step w.window.at_least_one t (w.window.moves t) k a

  y_on : (t k j : ℕ) → after < k → k ≤ last → gone x last turn step t (k + j * turn) ≡ move (pos j *ℤ step t k) (x t k)
  y_on t k j a m =
      turns_on (y t) after turn (k + j * turn) (step t) (w.window.residues t) (y_moves t (k + j * turn)) k j a (omega arith)
      ∙ ap (move (pos j *ℤ step t k)) (y_in t k m)

  -- up to the last number the tokens are there when they were
  token_in : (p : Place) (k : ℕ) → k ≤ last → available s (gone x last turn step) p k ≡ available s x p k
  token_in p k l = available_same s.initial y x p k (λ m. y_in p.from.index (k - p.tokens) (omega (arith, l)))

  token_there : (i : ℕ) (d : Place) → i < length s.places → (k j : ℕ) → last < k + turn → k ≤ last
      → available s (gone x last turn step) (get_or s.places i d) (k + j * turn)
      ≡ move (pos j *ℤ step (get_or s.places i d).from.index (k - (get_or s.places i d).tokens)) (available s x (get_or s.places i d) k)
  token_there i d l k j a m =
      let p : Place = get_or s.places i d in
      let fits : after + p.tokens + turn + turn ≤ last = w.window.tokens i d l in
      let one = w.window.at_least_one in
      token_on s.initial y after turn (k + j * turn) (step p.from.index) p (w.window.residues p.from.index) (y_moves p.from.index (k + j * turn)) k j (omega (arith, fits, a, one)) (omega arith)
      ∙ ap (move (pos j *ℤ step p.from.index (k - p.tokens))) (token_in p k m)

  -- the releases some turns on
  release_on : (t k j : ℕ) → last < k + turn → k ≤ last → j ≤ turns → s.release t (k + j * turn) ≡ move (pos j *ℤ pace t k) (s.release t k)
  release_on t k j a m fits =
      let room = w.window.two_turns in
      let one = w.window.at_least_one in
      let more = mul-le-mul_right turn fits in
      turns_on (s.release t) (last - turn - turn) turn (last + turns * turn) (pace t) (w.paces t) (w.releases t) k j (omega (arith, a, room, one)) (omega (arith, m, more))

  -- some turns on, each token and release that a firing waits for is there when it comes
  there_on : (t k j : ℕ) → last < k + turn → k ≤ last → j ≤ turns
      → IsThereBy s (gone x last turn step) t (k + j * turn) (gone x last turn step t (k + j * turn))
  there_on t k j a m fits =
      let room = w.window.two_turns in
      let one = w.window.at_least_one in
      let mine = y_on t k j (omega (arith, a, room)) m in
      record {
        tokens = λ i d b q.
            let p : Place = get_or s.places i d in
            let keeps : IsAtMostDate (available s x p k) (x p.to.index k) = h.feasible.places k (omega (arith, a, room)) i d b in
            let later = w.in_time k a m i d b in
            let there = between_turns (available s x p k) (x p.to.index k) (step p.from.index (k - p.tokens)) (step p.to.index k) j turns fits keeps later in
            rw (token_there i d b k j a m, mine)
            (subst (λ v. IsAtMostDate (move (pos j *ℤ step p.from.index (k - p.tokens)) (available s x p k)) (move (pos j *ℤ step v k) (x v k))) q there);
        release = rw (release_on t k j a m fits, mine)
            (between_turns (s.release t k) (x t k) (pace t k) (step t k) j turns fits (h.feasible.releases t k (omega (arith, a, room))) (w.released t k a m));
      }

  -- and it comes no later than the last of them
  tight_on : (t c j : ℕ) → last < (c + turn) + turn → c + turn ≤ last → 1 ≤ turns → j ≤ turns
      → (z : Date) → IsThereBy s (gone x last turn step) t ((c + turn) + j * turn) z → IsAtMostDate (gone x last turn step t ((c + turn) + j * turn)) z
  tight_on t c j a m some fits z there =
      let room = w.window.two_turns in
      let one = w.window.at_least_one in
      let k : ℕ = c + turn in
      let from : after < c = omega (arith, a, room) in
      let mine : y t (k + j * turn) ≡ move (pos j *ℤ step t k) (x t k) = y_on t k j (omega (arith, from)) m in
      let own : x t k ≡ move (step t k) (x t c) = w.window.moves t c from m ∙ ap (λ q. move q (x t c)) (sym (w.window.residues t c)) in
      ⊎_elim
      (λ (b : (i : ℕ) × IsMetBy s x t k i).
      let p : Place = get_or s.places b.0 no_place in
      let few : after + p.tokens + turn + turn ≤ last = w.window.tokens b.0 no_place b.1.within in
      let before : IsAtMostDate (available s x p c) (x t c) = subst (λ v. IsAtMostDate (available s x p c) (x v c)) b.1.ends (h.feasible.places c (omega (arith, from)) b.0 no_place b.1.within) in
      let later : IsAtMostDate (move (pos turns *ℤ step p.from.index (k - p.tokens)) (available s x p k)) (move (pos turns *ℤ step t k) (x t k)) =
      subst (λ v. IsAtMostDate (move (pos turns *ℤ step p.from.index (k - p.tokens)) (available s x p k)) (move (pos turns *ℤ step v k) (x v k))) b.1.ends
      (w.in_time k a m b.0 no_place b.1.within) in
      let its = token_next s.initial x after turn last (step p.from.index) p (w.window.residues p.from.index) (w.window.moves p.from.index) c (omega (arith, few, a)) m in
      let stays = together_on (available s x p c) (x t c) (available s x p k) (x t k) (step p.from.index (k - p.tokens)) (step t k) j turns some before its own b.1.same later in
      let is : y t (k + j * turn) ≡ available s y p (k + j * turn) = mine ∙ (stays ∙ sym (token_there b.0 no_place b.1.within k j a m)) in
      rw is (there.tokens b.0 no_place b.1.within b.1.ends))
      (λ (e : x t k ≡ s.release t k).
      let more = mul-le-mul_right turn some in
      let once : 1 * turn ≡ turn = grind arith in
      let its = w.releases t c (omega (arith, a, room, one)) (omega (arith, m, more, once)) ∙ ap (λ q. move q (s.release t c)) (sym (w.paces t c)) in
      let stays = together_on (s.release t c) (x t c) (s.release t k) (x t k) (pace t k) (step t k) j turns some
      (h.feasible.releases t c (omega (arith, from))) its own e (w.released t k a m) in
      let is : y t (k + j * turn) ≡ s.release t (k + j * turn) = mine ∙ (stays ∙ sym (release_on t k j a m fits)) in
      rw is there.release)
      (least_is_met s bound r rr x h t k (omega (arith, from)))

  -- up to the last number they are the least dates
  latest_in : (t k : ℕ) → 1 ≤ k → k ≤ last → IsLatest s (gone x last turn step) t k
  latest_in t k o m = record {
    there = record {
      tokens = λ i d b q.
          let p : Place = get_or s.places i d in
          rw (token_in p k m, y_in t k m)
          (subst (λ v. IsAtMostDate (available s x p k) (x v k)) q (h.feasible.places k o i d b));
      release = rw (y_in t k m) (h.feasible.releases t k o);
    };
    least = λ z there. rw (y_in t k m) (tight_in s bound r x rr h t k z o
        (λ i d b q. subst (λ e. IsAtMostDate e z) (token_in (get_or s.places i d) k m) (there.tokens i d b q))
        there.release);
  }

  latest_on : (t k j : ℕ) → last < k + turn → k ≤ last → 1 ≤ j → j ≤ turns → IsLatest s (gone x last turn step) t (k + j * turn)
  latest_on t k j a m o fits =
      let room = w.window.two_turns in
      let back : (k - turn) + turn ≡ k = omega (arith, a, room) in
      record {
        there = there_on t k j a m fits;
        least = subst (λ v. (z : Date) → IsThereBy s y t (v + j * turn) z → IsAtMostDate (y t (v + j * turn)) z) back
            (tight_on t (k - turn) j (omega (arith, a, back)) (omega (arith, m, back)) (omega (arith, o, fits)) fits);
      }

  latest : (t k : ℕ) → 1 ≤ k → k ≤ last + turns * turn → IsLatest s (gone x last turn step) t k
  latest t k o m =
      let one = w.window.at_least_one in
      let room = w.window.two_turns in
      ⊎_elim
      (λ (past : last < k).
      let j : ℕ = (k - ((last - turn) + turn) - 1) / turn + 1 in
      let found = back_in (last - turn) turn k one (omega (arith, past, room)) in
      let few : j ≤ turns =
      ⊎_elim
      (λ (q : turns < j).
      let much = mul-le-mul_right turn q in
      let is : suc turns * turn ≡ turns * turn + turn = grind arith in
      absurd (omega (arith, much, is, found.0, found.2, m, room)))
      (λ (q : j ≤ turns). q)
      (cases_lt turns j) in
      subst (IsLatest s y t) found.2
      (latest_on t (k - j * turn) j (omega (arith, found.0, room)) (omega (arith, found.1, room)) (omega arith) few))
      (λ (near : k ≤ last). latest_in t k o near)
      (cases_lt last k)

  pub jumps : (t : ℕ) → MovesTo (x t) after turn (last + turns * turn) (step t)
  jumps t k a m =
      let same : (i : ℕ) → 1 ≤ i → i ≤ last + turns * turn → y t i ≡ x t i = λ i o f. first_numbers s bound r rr y x (last + turns * turn) latest h t i o f in
      sym (same (k + turn) (omega (arith, a)) m)
      ∙ (y_moves t (last + turns * turn) k a m ∙ ap (move (step t k)) (same k (omega (arith, a)) (omega (arith, m))))

pub dates_jump_in : DatesJumpIn
dates_jump_in s ranks x h after turn last turns step pace w = jumps s ranks.0 ranks.1 ranks.2 x h after turn last turns step pace w

pub jumps_end_in : JumpsEndAtOvertakingsIn
jumps_end_in s x f after turn last turns step w moves k a m i d b =
    let p : Place = get_or s.places i d in
    let room = w.two_turns in
    let one = w.at_least_one in
    let few : after + p.tokens + turn + turn ≤ last = w.tokens i d b in
    let fits : k + turns * turn ≤ last + turns * turn = omega (arith, m) in
    let its = token_on s.initial x after turn (last + turns * turn) (step p.from.index) p (w.residues p.from.index) (moves p.from.index) k turns (omega (arith, few, a, one)) fits in
    let own = turns_on (x p.to.index) after turn (last + turns * turn) (step p.to.index) (w.residues p.to.index) (moves p.to.index) k turns (omega (arith, a, room)) fits in
    let keeps : IsAtMostDate (available s x p (k + turns * turn)) (x p.to.index (k + turns * turn)) = f.places (k + turns * turn) (omega (arith, a, room)) i d b in
    rw (its, own) at keeps

pub for_ever_in : NoFallIsForEverIn
for_ever_in s ranks x h after turn last step pace w paces releases none t k a =
    let room = w.two_turns in
    let one = w.at_least_one in
    let much : k * 1 ≤ k * turn = mul-le-mul {n₁ = k} {m₁ = 1} {n₂ = k} {m₂ = turn} (omega arith) one in
    let is : k * 1 ≡ k = grind arith in
    dates_jump_in s ranks x h after turn last k step pace
    (record {
      window = w;
      in_time = λ c b m i d q.
          let p : Place = get_or s.places i d in
          none_falls_on (available s x p c) (x p.to.index c) (step p.from.index (c - p.tokens)) (step p.to.index c) k
          (h.feasible.places c (omega (arith, b, room)) i d q) (none.places c b m i d q);
      paces = paces;
      releases = λ v. releases v (last + k * turn);
      released = λ v c b m.
          none_falls_on (s.release v c) (x v c) (pace v c) (step v c) k (h.feasible.releases v c (omega (arith, b, room))) (none.releases v c b m);
    })
    t k a (omega (arith, much, is, room))
