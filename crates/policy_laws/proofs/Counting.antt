-- The rounds of a run, counted by the ratios of their circuits.
use Rattle.std.proofs.Common.{ℕ, zero, suc, ◌+◌, ◌-◌, ◌*◌, ◌<◌, ◌≤◌, ◌≡◌, ◌⊎◌, inl, inr, List, [], ◌∷◌, length, get_or, refl, sym, ap, subst, ◌∙◌, arith, ⊎_elim}
use Rattle.std.specs.Prelude.{All, sum_by}
use Rattle.std.proofs.lemmas.Bool.{cases_lt}
use Rattle.std.proofs.Math.Nat.{mul-le-mul_left, mul-le-mul_right}
use Rattle.teg_net.specs.declared.entries.PlaceId.{PlaceId}
use Rattle.teg_net.specs.declared.rounds.Round.{Round}
use Rattle.teg_net.specs.Nets.{NetLists}
use Rattle.teg_net.specs.Ratios.{Fraction}
use Rattle.teg_net.specs.Circuits.{no_place, place_at, from_of, IsCircuit, IsLive, time_of, tokens_of}
use Rattle.teg_net.specs.Parts.{IsPlaceOfPart, ListsMembers}
use Rattle.policy_rounds.specs.Policies.{IsChanged}
use Rattle.policy_rounds.specs.PolicyRounds.{chosen, potential, IsRound, IsRoundOf, KeepsCircuit, FollowsRound, IsRunTo}
use Rattle.policy_rounds.proofs.Turns.{greater_ratio}
use Rattle.policy_rounds.proofs.Optimum.{some_token}
use Rattle.teg_howard.proofs.RoundStates.{ratio_less}
use Rattle.teg_howard.proofs.teg_certificates_proofs.Ratios.{ratio_trans_less}
use Rattle.policy_rounds.proofs.OneRun.{runs_agree}
use Rattle.teg_loops.proofs.Taking.{sum_most}
use Rattle.policy_laws.specs.RoundCounts.{RoundsOfOneRatioAreFew, most_ratios, RoundsAreFew}
use Rattle.policy_laws.proofs.RatioCounts.{ratios_up_to, ratios_rise, ratios_few}
use Rattle.policy_laws.proofs.OneRound.{Gains, LeadsHome, gains}
use Rattle.policy_laws.proofs.InPart.{circuit_in_part}
use Rattle.policy_laws.proofs.Kept.{AllGain, none_keep_on}

-- a circuit that gains at the ratio of another has the greater ratio
circuit_less : (a b tc kc td kd : ℕ) → 0 < kc → a * kd < b * td → tc * b ≡ a * kc → tc * kd < td * kc
circuit_less a b tc kc td kd some gain same = ⊎_elim
    (λ (l : tc * kd < td * kc). l)
    (λ (l : td * kc ≤ tc * kd).
    let one : b * (td * kc) ≤ b * (tc * kd) = mul-le-mul_left {m = td * kc} {n = tc * kd} b l in
    let two : (a * kd + 1) * kc ≤ b * td * kc = mul-le-mul_right {m = a * kd + 1} {n = b * td} kc (omega (arith, gain)) in
    let three : b * (tc * kd) ≡ kd * (tc * b) = grind arith in
    let four : kd * (tc * b) ≡ kd * (a * kc) = ap (λ z. kd * z) same in
    let five : (a * kd + 1) * kc ≡ kd * (a * kc) + kc = grind arith in
    let six : b * td * kc ≡ b * (td * kc) = grind arith in
    absurd (omega (arith, one, two, three, four, five, six, some)))
    (cases_lt (tc * kd) (td * kc))

-- the second round has the greater ratio, and so has its circuit
pub record Rises (net : NetLists) (r s : Round) : Type 0 where
  pub ratio : r.ratio.time * s.ratio.tokens < s.ratio.time * r.ratio.tokens
  pub circuit : time_of net r.circuit.places.items * tokens_of net s.circuit.places.items < time_of net s.circuit.places.items * tokens_of net r.circuit.places.items

module _ (net : NetLists) (parts : List ℕ) (part : ℕ) (live : IsLive net) (ts : List ℕ) (lists : ListsMembers parts part ts) (rounds : List Round) (run : IsRunTo net parts part rounds) (d : Round) where
  abbrev R : ℕ → Round
  R k = get_or rounds k d

  is_round : (k : ℕ) → k < length rounds → IsRound net parts part (R k)
  is_round k l = (runs_agree net parts part live rounds rounds d run run k l l).2

  home : (k : ℕ) → k < length rounds → LeadsHome net parts part (R k)
  home k l = (runs_agree net parts part live rounds rounds d run run k l l).1

  step : (k : ℕ) → k + 1 < length rounds → Gains net parts part (R k).ratio (R k) (R (k + 1)) ⊎ Rises net (R k) (R (k + 1))
  step k l =
      let r : Round = R k in
      let s : Round = R (k + 1) in
      let h : IsRound net parts part r = is_round k (omega (arith, l)) in
      let f : FollowsRound net parts part r s = run.next k d l in
      let c : List PlaceId = r.circuit.places.items in
      let e : List PlaceId = s.circuit.places.items in
      ⊎_elim
      (λ (w : IsRoundOf net parts part f.better (IsChanged parts part (chosen r) f.better) s).
      let gain = greater_ratio net parts part (chosen r) h.policy r.ratio.time r.ratio.tokens c h.circuit h.ratio.same (potential r) h.sums f.better f.improves e w.best.is w.best.through in
      inr (record {
        ratio = ratio_less r.ratio.time r.ratio.tokens s.ratio.time s.ratio.tokens (time_of net e)
            (tokens_of net e) f.round.ratio.terms.some (some_token net live e w.best.is.circuit) gain f.round.ratio.same;
        circuit = circuit_less r.ratio.time r.ratio.tokens (time_of net c) (tokens_of net c) (time_of net e) (tokens_of net e) (some_token net live c h.circuit.circuit) gain h.ratio.same;
      }))
      (λ (keep : KeepsCircuit net parts part r s f.better). inl (gains net parts part r s h (home k (omega (arith, l))) f keep))
      f.next

  -- the part has a member
  some : 0 < length rounds → 1 ≤ length ts
  some l =
      let h : IsRound net parts part (R 0) = is_round 0 l in
      let p : PlaceId = get_or (R 0).circuit.places.items 0 (record { index = 0 }) in
      let inside = h.circuit.inside 0 (record { index = 0 }) h.circuit.circuit.not_empty in
      let has = lists.all (from_of net p) inside.from_member in
      let low = has.1 in
      omega (arith, low)

  -- rounds that keep their circuit are fewer than the members
  few : (q : Fraction) (i m : ℕ) → i + m < length rounds → AllGain net parts part q R i m → m < length ts
  few q i m l all = ⊎_elim
      (λ (less : m < length ts). less)
      (λ (more : length ts ≤ m).
      let one = some (omega (arith, l)) in
      let n : ℕ = length ts - 1 in
      absurd (none_keep_on net parts part q R ts lists i n (omega (arith, one)) (λ j k. all j (omega (arith, k, more, one)))
      (is_round i (omega (arith, l))) (is_round (i + n + 1) (omega (arith, l, more, one))) (home (i + n + 1) (omega (arith, l, more, one)))))
      (cases_lt m (length ts))

  -- ---- between two rounds

  same_ratio : (q : Fraction) (m i : ℕ) → (R i).ratio ≡ q → AllGain net parts part q R i m → (R (i + m)).ratio ≡ q
  same_ratio q zero i e all = let f : i + 0 ≡ i = omega arith in ap (λ z. (R z).ratio) f ∙ e
  same_ratio q (suc m) i e all = let f : i + suc m ≡ i + m + 1 = omega arith in ap (λ z. (R z).ratio) f ∙ (all m (omega arith)).next

  one_more : (q : Fraction) (i m : ℕ) → AllGain net parts part q R i m → Gains net parts part q (R (i + m)) (R (i + m + 1)) → AllGain net parts part q R i (suc m)
  one_more q i m all g j l = ⊎_elim
      (λ (less : j < m). all j less)
      (λ (more : m ≤ j). let e : m ≡ j = omega (arith, l, more) in subst (λ z. Gains net parts part q (R (i + z)) (R (i + z + 1))) e g)
      (cases_lt j m)

  abbrev Less : Round → Round → Type 0
  Less r s = r.ratio.time * s.ratio.tokens < s.ratio.time * r.ratio.tokens

  between : (i m : ℕ) → i + m < length rounds → AllGain net parts part (R i).ratio R i m ⊎ Less (R i) (R (i + m))
  between i zero l = inl (λ j k. absurd (omega (arith, k)))
  between i (suc m) l =
      let q : Fraction = (R i).ratio in
      let next : i + m + 1 ≡ i + suc m = omega arith in
      ⊎_elim
      (λ (all : AllGain net parts part q R i m).
      let same : (R (i + m)).ratio ≡ q = same_ratio q m i refl all in
      ⊎_elim
      (λ (g : Gains net parts part (R (i + m)).ratio (R (i + m)) (R (i + m + 1))). inl (one_more q i m all (subst (λ x. Gains net parts part x (R (i + m)) (R (i + m + 1))) same g)))
      (λ (up : Rises net (R (i + m)) (R (i + m + 1))).
      inr (subst (λ z. Less (R i) (R z)) next (subst (λ x. x.time * (R (i + m + 1)).ratio.tokens < (R (i + m + 1)).ratio.time * x.tokens) same up.ratio)))
      (step (i + m) (omega (arith, l))))
      (λ (less : Less (R i) (R (i + m))).
      ⊎_elim
      (λ (g : Gains net parts part (R (i + m)).ratio (R (i + m)) (R (i + m + 1))).
      inr (subst (λ z. Less (R i) (R z)) next (subst (λ x. q.time * x.tokens < x.time * q.tokens) (sym g.next) less)))
      (λ (up : Rises net (R (i + m)) (R (i + m + 1))).
      let a = (is_round (i + m) (omega (arith, l))).ratio.terms.some in
      let b = (is_round i (omega (arith, l))).ratio.terms.some in
      inr (subst (λ z. Less (R i) (R z)) next
      (ratio_trans_less q.time q.tokens (R (i + m)).ratio.time (R (i + m)).ratio.tokens (R (i + m + 1)).ratio.time (R (i + m + 1)).ratio.tokens a b (omega (arith, less)) up.ratio)))
      (step (i + m) (omega (arith, l))))
      (between i m (omega (arith, l)))

  pub of_one_ratio : (i k : ℕ) → i ≤ k → k < length rounds → (R i).ratio ≡ (R k).ratio → k < i + length ts
  of_one_ratio i k l m same =
      let e : i + (k - i) ≡ k = omega (arith, l) in
      ⊎_elim
      (λ (all : AllGain net parts part (R i).ratio R i (k - i)). let less = few (R i).ratio i (k - i) (omega (arith, e, m)) all in omega (arith, less, e))
      (λ (less : Less (R i) (R (i + (k - i)))).
      let there : Less (R i) (R k) = subst (λ z. Less (R i) (R z)) e less in
      let none : (R i).ratio.time * (R i).ratio.tokens < (R i).ratio.time * (R i).ratio.tokens = subst (λ x. (R i).ratio.time * x.tokens < x.time * (R i).ratio.tokens) (sym same) there in
      absurd (omega (arith, none)))
      (between i (k - i) (omega (arith, e, m)))

  -- ---- all of them

  module _ (hold tokens : ℕ) (holds : All (λ p. p.hold ≤ hold) net.places) (marks : All (λ p. p.tokens ≤ tokens) net.places) where
    abbrev n : ℕ
    n = length ts

    abbrev T : ℕ
    T = n * hold

    abbrev D : ℕ
    D = n * tokens

    abbrev height : ℕ → ℕ
    height k = ratios_up_to T D (time_of net (R k).circuit.places.items) (tokens_of net (R k).circuit.places.items)

    around : (f : PlaceId → ℕ) (most : ℕ) → ((id : PlaceId) → id.index < length net.places → f id ≤ most) → (ps : List PlaceId) → IsCircuit net ps → All (IsPlaceOfPart net parts part) ps → sum_by f ps ≤ n * most
    around f most each ps c inside =
        let one = sum_most f most net each ps c.closed.0 c.closed.0 c.closed.1 in
        let two : length ps * most ≤ n * most = mul-le-mul_right {m = length ps} {n = n} most (circuit_in_part net parts part ts lists ps c inside) in
        omega (arith, one, two)

    time_in : (k : ℕ) → k < length rounds → time_of net (R k).circuit.places.items ≤ n * hold
    time_in k l = around (λ p. (place_at net p).hold) hold (λ id m. holds id.index no_place m) (R k).circuit.places.items (is_round k l).circuit.circuit (is_round k l).circuit.inside

    tokens_in : (k : ℕ) → k < length rounds → tokens_of net (R k).circuit.places.items ≤ D
    tokens_in k l = around (λ p. (place_at net p).tokens) tokens (λ id m. marks id.index no_place m) (R k).circuit.places.items (is_round k l).circuit.circuit (is_round k l).circuit.inside

    -- the rounds that lead up to round k with its circuit begin at one that is not past n times its height
    record IsCounted (k : ℕ) : Type 0 where
      begin : ℕ
      within : begin ≤ k
      kept : AllGain net parts part (R k).ratio R begin (k - begin)
      low : begin ≤ n * height k

    bounded : (k : ℕ) → k < length rounds → (c : IsCounted k) → k < n * height k + n
    bounded k l c =
        let in' = c.within in
        let e : c.begin + (k - c.begin) ≡ k = omega (arith, in') in
        let short = few (R k).ratio c.begin (k - c.begin) (omega (arith, e, l)) c.kept in
        let low = c.low in
        omega (arith, short, low, e)

    counted : (k : ℕ) → k < length rounds → IsCounted k
    counted zero l = record { begin = 0; within = omega arith; kept = λ j m. absurd (omega (arith, m)); low = omega arith }
    counted (suc k) l =
        let old : IsCounted k = counted k (omega (arith, l)) in
        let next : k + 1 ≡ suc k = omega arith in
        let in' = old.within in
        ⊎_elim
        (λ (g : Gains net parts part (R k).ratio (R k) (R (k + 1))).
        let at : old.begin + (k - old.begin) ≡ k = omega (arith, in') in
        let here : Gains net parts part (R k).ratio (R (old.begin + (k - old.begin))) (R (old.begin + (k - old.begin) + 1)) =
        subst (λ z. Gains net parts part (R k).ratio (R z) (R (z + 1))) (sym at) g in
        let more : AllGain net parts part (R k).ratio R old.begin (suc (k - old.begin)) = one_more (R k).ratio old.begin (k - old.begin) old.kept here in
        let count : suc (k - old.begin) ≡ suc k - old.begin = omega (arith, in') in
        let ratio : (R k).ratio ≡ (R (suc k)).ratio = sym g.next ∙ ap (λ z. (R z).ratio) next in
        let circuit : (R (suc k)).circuit.places.items ≡ (R k).circuit.places.items = ap (λ z. (R z).circuit.places.items) (sym next) ∙ g.circuit in
        let high : height (suc k) ≡ height k = ap (λ z. ratios_up_to T D (time_of net z) (tokens_of net z)) circuit in
        let low = old.low in
        let same : n * height (suc k) ≡ n * height k = ap (λ z. n * z) high in
        record {
          begin = old.begin;
          within = omega (arith, in');
          kept = subst (λ m. AllGain net parts part (R (suc k)).ratio R old.begin m) count (subst (λ x. AllGain net parts part x R old.begin (suc (k - old.begin))) ratio more);
          low = omega (arith, low, same);
        })
        (λ (up : Rises net (R k) (R (k + 1))).
        let before = bounded k (omega (arith, l)) old in
        let c : List PlaceId = (R k).circuit.places.items in
        let e : List PlaceId = (R (suc k)).circuit.places.items in
        let rise : Rises net (R k) (R (suc k)) = subst (λ z. Rises net (R k) (R z)) next up in
        let higher : height k + 1 ≤ height (suc k) = ratios_rise T D (time_of net c) (tokens_of net c) (time_of net e) (tokens_of net e)
        (some_token net live c (is_round k (omega (arith, l))).circuit.circuit)
        (some_token net live e (is_round (suc k) l).circuit.circuit) (tokens_in (suc k) l) (time_in (suc k) l) rise.circuit in
        let wide : n * (height k + 1) ≤ n * height (suc k) = mul-le-mul_left {m = height k + 1} {n = height (suc k)} n higher in
        let spread : n * (height k + 1) ≡ n * height k + n = grind arith in
        record { begin = suc k; within = omega arith; kept = λ j m. absurd (omega (arith, m)); low = omega (arith, before, wide, spread) })
        (step k (omega (arith, l)))

    pub all_few : 0 < length rounds → length rounds ≤ n * most_ratios (n * hold) (n * tokens)
    all_few l =
        let k : ℕ = length rounds - 1 in
        let in' : k < length rounds = omega (arith, l) in
        let up = bounded k in' (counted k in') in
        let high : height k ≤ T * D = ratios_few T D (time_of net (R k).circuit.places.items) (tokens_of net (R k).circuit.places.items) in
        let wide : n * height k ≤ n * (T * D) = mul-le-mul_left {m = height k} {n = T * D} n high in
        let spread : n * (T * D + 1) ≡ n * (T * D) + n = grind arith in
        omega (arith, up, wide, spread, l)

pub one_ratio_few : RoundsOfOneRatioAreFew
one_ratio_few net part_of part members rounds live lists run i k d l m same = of_one_ratio net part_of part live members lists rounds run.run d i k l m same

pub few_rounds : RoundsAreFew
few_rounds net part_of part members hold tokens rounds live lists run holds marks = by_first net part_of part members hold tokens rounds live lists run.run holds marks run.run.some where
  by_first : (net : NetLists) (part_of : List ℕ) (part : ℕ) (members : List ℕ) (hold tokens : ℕ) (rounds : List Round) → IsLive net → ListsMembers part_of part members
      → IsRunTo net part_of part rounds → All (λ p. p.hold ≤ hold) net.places → All (λ p. p.tokens ≤ tokens) net.places → 0 < length rounds
      → length rounds ≤ length members * most_ratios (length members * hold) (length members * tokens)
  by_first net part_of part members hold tokens (r ∷ rounds) live lists run holds marks l = all_few net part_of part live members lists (r ∷ rounds) run r hold tokens holds marks l
  by_first net part_of part members hold tokens [] live lists run holds marks l = absurd (omega arith)
