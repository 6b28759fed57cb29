-- As many rounds as a part has members cannot all keep their circuit.
use Rattle.std.proofs.Common.{ℕ, zero, suc, ◌+◌, ◌-◌, ◌<◌, ◌≤◌, ◌≡◌, List, [], ◌∷◌, length, refl, sym, ap, subst, ◌∙◌, arith}
use Rattle.std.specs.Prelude.{pos, ◌+ℤ◌, ◌≤ℤ◌, All}
use Rattle.std.proofs.lemmas.Int.{ints}
use Rattle.std.proofs.lemmas.List.Elements.{All-tail}
use Rattle.teg_net.specs.declared.entries.PlaceId.{PlaceId}
use Rattle.teg_net.specs.declared.rounds.Round.{Round}
use Rattle.teg_net.specs.Nets.{NetLists}
use Rattle.teg_net.specs.Ratios.{Fraction}
use Rattle.teg_net.specs.Circuits.{from_of, IsPathBetween}
use Rattle.teg_net.specs.Parts.{to_of, IsMember, IsPlaceOfPart, ListsMembers}
use Rattle.teg_net.specs.ReducedTimes.{reduced_time_of}
use Rattle.teg_net.specs.PartAnswers.{first_transition_of}
use Rattle.policy_rounds.specs.Policies.{Enters}
use Rattle.policy_rounds.specs.PolicyRounds.{potential, IsRound}
use Rattle.policy_laws.proofs.OneRound.{Gains, LeadsHome, IsShortPath, short_path}

module _ (net : NetLists) (parts : List ℕ) (part : ℕ) (q : Fraction) (R : ℕ → Round) where
  -- from round i on so many rounds are followed by one that keeps ratio and circuit
  abbrev pub AllGain : ℕ → ℕ → Type 0
  AllGain i m = (j : ℕ) → j < m → Gains net parts part q (R (i + j)) (R (i + j + 1))

  later : (i m : ℕ) → AllGain i (suc m) → AllGain (i + 1) m
  later i m all j l =
      let e : i + (j + 1) ≡ i + 1 + j = omega arith in
      subst (λ z. Gains net parts part q (R z) (R (z + 1))) e (all (j + 1) (omega (arith, l)))

  first : (i m : ℕ) → AllGain i (suc m) → Gains net parts part q (R i) (R (i + 1))
  first i m all = let e : i + 0 ≡ i = omega arith in subst (λ z. Gains net parts part q (R z) (R (z + 1))) e (all 0 (omega arith))

  rises_on : (m i : ℕ) → AllGain i m → (t : ℕ) → IsMember parts part t → potential (R i) t ≤ℤ potential (R (i + m)) t
  rises_on zero i all t k = let e : i + 0 ≡ i = omega arith in let f : potential (R (i + 0)) t ≡ potential (R i) t = ap (λ z. potential (R z) t) e in omega (arith, ints, f)
  rises_on (suc m) i all t k =
      let here = (first i m all).rising t k in
      let rest = rises_on m (i + 1) (later i m all) t k in
      let e : i + 1 + m ≡ i + suc m = omega arith in
      let f : potential (R (i + 1 + m)) t ≡ potential (R (i + suc m)) t = ap (λ z. potential (R z) t) e in
      omega (arith, ints, here, rest, f)

  -- round by round potentials reach what a path has
  along : (ps : List PlaceId) (i u t : ℕ) → AllGain i (length ps) → IsPathBetween net u ps t → All (IsPlaceOfPart net parts part) ps
      → (reduced_time_of net q.time q.tokens ps +ℤ potential (R i) u) ≤ℤ potential (R (i + length ps)) t
  along [] i u t all h inside = let e : i + 0 ≡ i = omega arith in let f : potential (R (i + 0)) t ≡ potential (R i) u =
      ap (λ z. potential (R z) t) e ∙ ap (potential (R i)) (sym h) in omega (arith, ints, f)
  along (p ∷ ps) i u t all h inside =
      let own : IsPlaceOfPart net parts part p = inside 0 p (omega arith) in
      let enters : Enters net parts part (to_of net p) p = record { inside = own; ends = refl } in
      let here = (first i (length ps) all).taken (to_of net p) p own.to_member enters in
      let rest = along ps (i + 1) (to_of net p) t (later i (length ps) all) h.2 (All-tail (IsPlaceOfPart net parts part) p ps inside) in
      let from : potential (R i) (from_of net p) ≡ potential (R i) u = ap (potential (R i)) h.1 in
      let e : i + 1 + length ps ≡ i + length (p ∷ ps) = omega arith in
      let f : potential (R (i + 1 + length ps)) t ≡ potential (R (i + length (p ∷ ps))) t = ap (λ z. potential (R z) t) e in
      omega (arith, ints, here, rest, from, f)

  same_circuit : (m i : ℕ) → AllGain i m → (R (i + m)).circuit.places.items ≡ (R i).circuit.places.items
  same_circuit zero i all = let e : i + 0 ≡ i = omega arith in ap (λ z. (R z).circuit.places.items) e
  same_circuit (suc m) i all =
      let e : i + suc m ≡ i + 1 + m = omega arith in
      ap (λ z. (R z).circuit.places.items) e ∙ same_circuit m (i + 1) (later i m all) ∙ (first i m all).circuit

  fewer : (i m n : ℕ) → m ≤ n → AllGain i n → AllGain i m
  fewer i m n l all j k = all j (omega (arith, l, k))

  last : (i n : ℕ) → AllGain i (suc n) → Gains net parts part q (R (i + n)) (R (i + n + 1))
  last i n all = all n (omega arith)

  -- as many as the part has members: then the last gains nothing
  pub none_keep_on : (ts : List ℕ) → ListsMembers parts part ts → (i n : ℕ) → length ts ≡ suc n → AllGain i (suc n) → IsRound net parts part (R i)
      → IsRound net parts part (R (i + n + 1)) → LeadsHome net parts part (R (i + n + 1)) → ⊥
  none_keep_on ts lists i n count all h k home =
      let g = last i n all in
      let up = g.improvable in
      let t : ℕ = up.0 in
      let p : PlaceId = up.1 in
      let more = up.2.more in
      let ends = up.2.enters.ends in
      let m : IsMember parts part t = subst (IsMember parts part) ends up.2.enters.inside.to_member in
      let taken = g.taken t p m up.2.enters in
      let w : IsShortPath net parts part (R (i + n + 1)) (length ts) t = short_path net parts part (R (i + n + 1)) k home ts lists t m in
      let ps : List PlaceId = w.places in
      let size : length ps ≤ n = (let s = w.short in omega (arith, s, count)) in
      let circuit : (R (i + n + 1)).circuit.places.items ≡ (R i).circuit.places.items =
      (let e : i + n + 1 ≡ i + suc n = omega arith in ap (λ z. (R z).circuit.places.items) e ∙ same_circuit (suc n) i all) in
      let root : ℕ = first_transition_of net (R i).circuit.places.items in
      let path : IsPathBetween net root ps t = subst (λ z. IsPathBetween net (first_transition_of net z) ps t) circuit w.path in
      let reach = along ps i root t (fewer i (length ps) (suc n) (omega (arith, size)) all) path w.inside in
      let start : potential (R i) root ≡ pos 0 = h.sums.start in
      let on : potential (R (i + length ps)) t ≤ℤ potential (R (i + length ps + (n - length ps))) t = rises_on (n - length ps) (i + length ps) (from_there i (length ps) n size all) t m in
      let e : i + length ps + (n - length ps) ≡ i + n = omega (arith, size) in
      let f : potential (R (i + length ps + (n - length ps))) t ≡ potential (R (i + n)) t = ap (λ z. potential (R z) t) e in
      let is : potential (R (i + n + 1)) t ≡ reduced_time_of net q.time q.tokens ps = w.is ∙ ap (λ x. reduced_time_of net x.time x.tokens ps) g.next in
      omega (arith, ints, more, taken, reach, start, on, f, is) where
        from_there : (i m n : ℕ) → m ≤ n → AllGain i (suc n) → AllGain (i + m) (n - m)
        from_there i m n l all j k =
            let e : i + (m + j) ≡ i + m + j = omega arith in
            subst (λ z. Gains net parts part q (R z) (R (z + 1))) e (all (m + j) (omega (arith, l, k)))
