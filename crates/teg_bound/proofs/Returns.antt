-- Windows of the least dating of a net without inputs. Where the last rows come again, all moved by one step, the dates go on so;
-- and where each transition reaches each, every form moves all by one step.
use Rattle.std.proofs.Common.{ℕ, ℤ, zero, suc, pos, ◌+◌, ◌-◌, ◌<◌, ◌≤◌, ◌≡◌, List, [], ◌∷◌, length, get_or, refl, sym, ap, subst, ◌∙◌, arith, ⊎_elim, ◌⊎◌, inl, inr, ◌+ℤ◌, ◌-ℤ◌}
use Rattle.std.specs.Prelude.{negsuc, ◌≤ℤ◌, All}
use Rattle.std.proofs.lemmas.Bool.{cases_lt}
use Rattle.std.proofs.lemmas.Int.{ints, by_lt_z}
use Rattle.std.proofs.lemmas.List.{get_or_default}
use Rattle.dioid.specs.declared.dates.Date.TheVariants.{Early, At}
use Rattle.dioid.specs.Dates.{IsAtMostDate, delayed, later_of, move}
use Rattle.dioid.proofs.DateOrder.{same_by_at_most}
use Rattle.dioid.proofs.Moves.{delayed_move, move_back, move_forth, move_rises}
use Rattle.teg_net.specs.declared.entries.Place.{Place}
use Rattle.teg_net.specs.declared.entries.PlaceId.{PlaceId}
use Rattle.teg_net.specs.Nets.{NetLists, IsNet, IsInput, IsPlaceOf}
use Rattle.teg_net.specs.Circuits.{no_place, place_at, IsPathBetween}
use Rattle.teg_net.specs.Parts.{Reaches}
use Rattle.teg_net.specs.ReadyDates.{start_date}
use Rattle.teg_net.specs.Walks.{walk_time}
use Rattle.teg_check.specs.Ranks.{IsRanking}
use Rattle.periodic_laws.specs.teg_model.LiveRanks.{AreRanks}
use Rattle.periodic_laws.specs.teg_model.LeastDatings.{IsTight}
use Rattle.periodic_laws.specs.teg_model.Datings.{IsLeastDating, available_at, at_input, implicit_place, initial_date, listed_releases}
use Rattle.periodic_laws.specs.teg_model.Starts.{start_of_firing}
use Rattle.periodic_laws.specs.teg_model.WalkDates.{IsDateOfWalk, IsGreatestOfWalks}
use Rattle.periodic_laws.proofs.teg_model_proofs.DateFunctions.{Dating}
use Rattle.periodic_laws.proofs.teg_model_proofs.GreatestWalks.{least_is_walk}
use Rattle.periodic_laws.proofs.teg_model_proofs.OfNet.{all_extended_in, input_or_not, net_ends, tight_of_least}
use Rattle.periodic_laws.proofs.teg_model_proofs.Tokens.{available_after, implicit_gives, implicit_keeps, place_keeps}
use Rattle.periodic_laws.specs.settled_laws.SettledForms.{RepeatsAfter}
use Rattle.periodic_laws.specs.settled_laws.DateDifferences.{between}
use Rattle.date_rows.proofs.Ranking.{rank_of, ranks_of}

le_or_not : (a b : ℤ) → (a ≤ℤ b) ⊎ ((b +ℤ pos 1) ≤ℤ a)
le_or_not a b = by_lt_z b a (λ l. inr (omega (arith, ints))) (λ l. inl l)

-- a natural number that is not below the whole number
above : (z : ℤ) → (n : ℕ) × (z ≤ℤ pos n)
above (pos n) = (n, omega (arith, ints))
above (negsuc n) = (0, omega (arith, ints))

module _ (net : NetLists) (ok : IsNet net) (ranks : List ℕ) (ranking : IsRanking net ranks) (no_input : (t : ℕ) → IsInput net t → ⊥)
    (x : Dating) (least : IsLeastDating net x) where
  rr : AreRanks net.places 400 (rank_of ranks)
  rr = ranks_of net ranks ok ranking

  tight : IsTight net (listed_releases net) x
  tight = tight_of_least net (listed_releases net) x 400 (rank_of ranks) (ranks_of net ranks ok ranking) least

  -- ---- numbers

  start_is : (t k : ℕ) → start_of_firing net (listed_releases net) t k ≡ At (pos (start_date net t k))
  start_is t k = ⊎_elim
      (λ e. absurd (no_input t e.0))
      (λ (e : (at_input net t (listed_releases net t k) Early ≡ Early) × (at_input net t (listed_releases net t k) Early ≡ Early)).
      ap (later_of (At (pos (start_date net t k)))) e.0)
      (input_or_not net t (listed_releases net t k) Early Early)

  -- each date is a number
  pub numbers : (t k : ℕ) → t < length net.transitions → 1 ≤ k → (z : ℤ) × (x t k ≡ At z)
  numbers t k l o =
      let walks : IsGreatestOfWalks net (listed_releases net) t k (x t k) =
      least_is_walk net (listed_releases net) x 400 (rank_of ranks) (net_ends net ok) (ranks_of net ranks ok ranking) least t k l o in
      let w : IsDateOfWalk net (listed_releases net) t k (x t k) = walks.reached in
      (pos (start_date net w.from w.number) +ℤ pos (walk_time net w.steps), w.is ∙ ap (delayed (walk_time net w.steps)) (w.starts ∙ start_is w.from w.number))

  places_all : (P : Place → Type 0) → ((i : ℕ) → i < length net.places → P (get_or net.places i no_place)) → All P net.places
  places_all P h i d l = rw (get_or_default net.places i d no_place l) (h i l)

  -- ---- a window that comes again

  module _ (most last period : ℕ) (step : ℤ) (some : 1 ≤ most) (long : most ≤ last) (tokens : All (λ p. p.tokens ≤ most) net.places)
      (window : (t k : ℕ) → t < length net.transitions → last < k + most → k ≤ last → x t (k + period) ≡ move step (x t k)) where
    module _ (k : ℕ) (past : last < k) (before : (t i : ℕ) → t < length net.transitions → last < i + most → i < k → x t (i + period) ≡ move step (x t i)) where
      -- what a place gives has moved, where the firings of lower rank have
      gives : (m : ℕ) → ((t : ℕ) → t < length net.transitions → rank_of ranks t < m → x t (k + period) ≡ move step (x t k))
          → (i : ℕ) → i < length net.places → rank_of ranks (get_or net.places i no_place).to.index ≤ m
          → available_at x (get_or net.places i no_place) (k + period) ≡ move step (available_at x (get_or net.places i no_place) k)
      gives m lower i l up =
          let p : Place = get_or net.places i no_place in
          let p_in : IsPlaceOf net p = ok.each_place i no_place l in
          let few = tokens i no_place l in
          let back : (k + period) - p.tokens ≡ (k - p.tokens) + period = omega arith in
          let source : x p.from.index ((k + period) - p.tokens) ≡ move step (x p.from.index (k - p.tokens)) =
          ⊎_elim
          (λ (none : p.tokens < 1).
          let zero_is : p.tokens ≡ 0 = omega arith in
          let rise = rr.rise i no_place l zero_is in
          let early : (k + period) - p.tokens ≡ k + period = omega arith in
          let here : k - p.tokens ≡ k = omega arith in
          ap (x p.from.index) early ∙ (lower p.from.index p_in.from_in (omega arith) ∙ ap (λ j. move step (x p.from.index j)) (sym here)))
          (λ (one : 1 ≤ p.tokens). ap (x p.from.index) back ∙ before p.from.index (k - p.tokens) p_in.from_in (omega arith) (omega arith))
          (cases_lt p.tokens 1) in
          let late : available_at x p (k + period) ≡ delayed p.hold (move step (x p.from.index (k - p.tokens))) =
          available_after initial_date x p (k + period) (move step (x p.from.index (k - p.tokens))) (omega arith) source in
          let now : available_at x p k ≡ delayed p.hold (x p.from.index (k - p.tokens)) =
          available_after initial_date x p k (x p.from.index (k - p.tokens)) (omega arith) refl in
          late ∙ (delayed_move p.hold step (x p.from.index (k - p.tokens)) ∙ ap (move step) (sym now))

      waits : (t : ℕ) → t < length net.transitions → available_at x (implicit_place t) (k + period) ≡ move step (available_at x (implicit_place t) k)
      waits t l =
          let j : ℕ = k - 1 in
          let k_is : j + 1 ≡ k = omega arith in
          let late_is : (j + period) + 1 ≡ k + period = omega arith in
          let now : available_at x (implicit_place t) k ≡ x t j = subst (λ i. available_at x (implicit_place t) i ≡ x t j) k_is (implicit_gives initial_date x t j (omega arith)) in
          let late : available_at x (implicit_place t) (k + period) ≡ x t (j + period) =
          subst (λ i. available_at x (implicit_place t) i ≡ x t (j + period)) late_is (implicit_gives initial_date x t (j + period) (omega arith)) in
          late ∙ (before t j l (omega arith) (omega arith) ∙ ap (move step) (sym now))

      by_rank : (m t : ℕ) → t < length net.transitions → rank_of ranks t < m → x t (k + period) ≡ move step (x t k)
      by_rank zero t l q = absurd (omega arith)
      by_rank (suc m) t l q =
          let lower : (u : ℕ) → u < length net.transitions → rank_of ranks u < m → x u (k + period) ≡ move step (x u k) = λ u v w. by_rank m u v w in
          let back : ℤ = pos 0 -ℤ step in
          let same : step ≤ℤ step = omega (arith, ints) in
          let same_back : back ≤ℤ back = omega (arith, ints) in
          let up : IsAtMostDate (x t (k + period)) (move step (x t k)) =
          tight.tight t (k + period) (move step (x t k)) l (omega arith)
          (all_extended_in net (λ p. p.to.index ≡ t → IsAtMostDate (available_at x p (k + period)) (move step (x t k)))
          (places_all (λ p. p.to.index ≡ t → IsAtMostDate (available_at x p (k + period)) (move step (x t k)))
          (λ i v e.
          let p : Place = get_or net.places i no_place in
          let keeps : IsAtMostDate (available_at x p k) (x p.to.index k) = place_keeps net (listed_releases net) x least.feasible k (omega arith) i v in
          let low : rank_of ranks p.to.index ≤ m = subst (λ u. rank_of ranks u ≤ m) (sym e) (omega arith) in
          let moved : IsAtMostDate (available_at x p (k + period)) (move step (x p.to.index k)) =
          rw (gives m lower i v low) (move_rises step step (available_at x p k) (x p.to.index k) same keeps) in
          subst (λ u. IsAtMostDate (available_at x p (k + period)) (move step (x u k))) e moved))
          (λ v v_in e.
          let keeps : IsAtMostDate (available_at x (implicit_place v) k) (x v k) = implicit_keeps net (listed_releases net) x least.feasible v k v_in (omega arith) in
          let moved : IsAtMostDate (available_at x (implicit_place v) (k + period)) (move step (x v k)) =
          rw (waits v v_in) (move_rises step step (available_at x (implicit_place v) k) (x v k) same keeps) in
          subst (λ u. IsAtMostDate (available_at x (implicit_place v) (k + period)) (move step (x u k))) e moved))
          (λ e. absurd (no_input t e)) in
          let down : IsAtMostDate (x t k) (move back (x t (k + period))) =
          tight.tight t k (move back (x t (k + period))) l (omega arith)
          (all_extended_in net (λ p. p.to.index ≡ t → IsAtMostDate (available_at x p k) (move back (x t (k + period))))
          (places_all (λ p. p.to.index ≡ t → IsAtMostDate (available_at x p k) (move back (x t (k + period))))
          (λ i v e.
          let p : Place = get_or net.places i no_place in
          let keeps : IsAtMostDate (available_at x p (k + period)) (x p.to.index (k + period)) =
          place_keeps net (listed_releases net) x least.feasible (k + period) (omega arith) i v in
          let low : rank_of ranks p.to.index ≤ m = subst (λ u. rank_of ranks u ≤ m) (sym e) (omega arith) in
          let here : move back (available_at x p (k + period)) ≡ available_at x p k =
          ap (move back) (gives m lower i v low) ∙ move_forth step (available_at x p k) in
          let moved : IsAtMostDate (available_at x p k) (move back (x p.to.index (k + period))) =
          subst (λ a. IsAtMostDate a (move back (x p.to.index (k + period)))) here
          (move_rises back back (available_at x p (k + period)) (x p.to.index (k + period)) same_back keeps) in
          subst (λ u. IsAtMostDate (available_at x p k) (move back (x u (k + period)))) e moved))
          (λ v v_in e.
          let keeps : IsAtMostDate (available_at x (implicit_place v) (k + period)) (x v (k + period)) =
          implicit_keeps net (listed_releases net) x least.feasible v (k + period) v_in (omega arith) in
          let here : move back (available_at x (implicit_place v) (k + period)) ≡ available_at x (implicit_place v) k =
          ap (move back) (waits v v_in) ∙ move_forth step (available_at x (implicit_place v) k) in
          let moved : IsAtMostDate (available_at x (implicit_place v) k) (move back (x v (k + period))) =
          subst (λ a. IsAtMostDate a (move back (x v (k + period)))) here
          (move_rises back back (available_at x (implicit_place v) (k + period)) (x v (k + period)) same_back keeps) in
          subst (λ u. IsAtMostDate (available_at x (implicit_place v) k) (move back (x u (k + period)))) e moved))
          (λ e. absurd (no_input t e)) in
          let raised : IsAtMostDate (move step (x t k)) (x t (k + period)) =
          subst (IsAtMostDate (move step (x t k))) (move_back step (x t (k + period)))
          (move_rises step step (x t k) (move back (x t (k + period))) same down) in
          same_by_at_most (x t (k + period)) (move step (x t k)) up raised

    on : (j t k : ℕ) → t < length net.transitions → last < k + most → k ≤ j → x t (k + period) ≡ move step (x t k)
    on zero t k l a b = absurd (omega arith)
    on (suc j) t k l a b =
        ⊎_elim
        (λ (q : last < k).
        let low = rr.below t in
        by_rank k q (λ u i v w z. on j u i v w (omega arith)) 400 t l low)
        (λ (q : k ≤ last). window t k l a q)
        (cases_lt last k)

    pub goes_on : 1 ≤ period → RepeatsAfter (length net.transitions) x (last - most) period (λ t. step)
    goes_on one = record { at_least_one = one; again = λ t k l a. on k t k l (omega arith) (omega arith) }

  -- ---- steps of forms

  module _ (after period : ℕ) (step : ℕ → ℤ) (rep : RepeatsAfter (length net.transitions) x after period step) where
    falls_behind : (i : ℕ) → i < length net.places → (step (get_or net.places i no_place).to.index +ℤ pos 1) ≤ℤ step (get_or net.places i no_place).from.index
        → (d k : ℕ) (a b : ℤ) → after + (get_or net.places i no_place).tokens < k
        → x (get_or net.places i no_place).from.index (k - (get_or net.places i no_place).tokens) ≡ At a → x (get_or net.places i no_place).to.index k ≡ At b
        → b ≤ℤ (a +ℤ pos d) → ⊥
    falls_behind i l steep zero k a b far ea eb gap =
        let p : Place = get_or net.places i no_place in
        let p_in : IsPlaceOf net p = ok.each_place i no_place l in
        let back : (k + period) - p.tokens ≡ (k - p.tokens) + period = omega arith in
        let ea2 : x p.from.index ((k + period) - p.tokens) ≡ At (a +ℤ step p.from.index) =
        ap (x p.from.index) back ∙ (rep.again p.from.index (k - p.tokens) p_in.from_in (omega arith) ∙ ap (move (step p.from.index)) ea) in
        let eb2 : x p.to.index (k + period) ≡ At (b +ℤ step p.to.index) = rep.again p.to.index k p_in.to_in (omega arith) ∙ ap (move (step p.to.index)) eb in
        let given : available_at x p (k + period) ≡ At ((a +ℤ step p.from.index) +ℤ pos p.hold) =
        available_after initial_date x p (k + period) (At (a +ℤ step p.from.index)) (omega arith) ea2 in
        let up : ((a +ℤ step p.from.index) +ℤ pos p.hold) ≤ℤ (b +ℤ step p.to.index) =
        rw (given, eb2) at (place_keeps net (listed_releases net) x least.feasible (k + period) (omega arith) i l) in
        absurd (omega (arith, ints))
    falls_behind i l steep (suc d) k a b far ea eb gap =
        let p : Place = get_or net.places i no_place in
        let p_in : IsPlaceOf net p = ok.each_place i no_place l in
        let back : (k + period) - p.tokens ≡ (k - p.tokens) + period = omega arith in
        let ea2 : x p.from.index ((k + period) - p.tokens) ≡ At (a +ℤ step p.from.index) =
        ap (x p.from.index) back ∙ (rep.again p.from.index (k - p.tokens) p_in.from_in (omega arith) ∙ ap (move (step p.from.index)) ea) in
        let eb2 : x p.to.index (k + period) ≡ At (b +ℤ step p.to.index) = rep.again p.to.index k p_in.to_in (omega arith) ∙ ap (move (step p.to.index)) eb in
        falls_behind i l steep d (k + period) (a +ℤ step p.from.index) (b +ℤ step p.to.index) (omega arith) ea2 eb2 (omega (arith, ints))

    -- along each place they rise
    rises : (i : ℕ) → i < length net.places → step (get_or net.places i no_place).from.index ≤ℤ step (get_or net.places i no_place).to.index
    rises i l = ⊎_elim
        (λ (e : step (get_or net.places i no_place).from.index ≤ℤ step (get_or net.places i no_place).to.index). e)
        (λ (steep : (step (get_or net.places i no_place).to.index +ℤ pos 1) ≤ℤ step (get_or net.places i no_place).from.index).
        let p : Place = get_or net.places i no_place in
        let p_in : IsPlaceOf net p = ok.each_place i no_place l in
        let k : ℕ = suc (after + p.tokens) in
        let from = numbers p.from.index (k - p.tokens) p_in.from_in (omega arith) in
        let to = numbers p.to.index k p_in.to_in (omega arith) in
        let far = above (to.0 -ℤ from.0) in
        absurd (falls_behind i l steep far.0 k from.0 to.0 (omega arith) from.1 to.1 (let up = far.1 in omega (arith, ints))))
        (le_or_not (step (get_or net.places i no_place).from.index) (step (get_or net.places i no_place).to.index))

    along : (ps : List PlaceId) (a b : ℕ) → IsPathBetween net a ps b → step a ≤ℤ step b
    along [] a b h = subst (λ z. step a ≤ℤ step z) h (omega (arith, ints))
    along (p ∷ ps) a b h =
        let first : step (place_at net p).from.index ≤ℤ step (place_at net p).to.index = rises p.index h.0 in
        let here : step (place_at net p).from.index ≡ step a = ap step h.1 in
        let rest = along ps (place_at net p).to.index b h.2 in
        omega (arith, ints)

    module _ (strong : (t u : ℕ) → t < length net.transitions → u < length net.transitions → Reaches net t u) where
      -- where each transition reaches each, all steps are one
      pub one_step : (t u : ℕ) → t < length net.transitions → u < length net.transitions → step t ≡ step u
      one_step t u l m =
          let there = strong t u l m in
          let back = strong u t m l in
          let up = along there.0 t u there.1 in
          let down = along back.0 u t back.1 in
          omega (arith, ints)

      -- so a window past the form's number comes again a period later, all moved by the step that one transition's last dates show
      pub comes_again : (u last : ℕ) → u < length net.transitions → after < last
          → (t k : ℕ) → t < length net.transitions → after < k → x t (k + period) ≡ move (between (x u last) (x u (last + period))) (x t k)
      comes_again u last u_in far t k l a =
          let d = numbers u last u_in (omega arith) in
          let moved : x u (last + period) ≡ At (d.0 +ℤ step u) = rep.again u last u_in far ∙ ap (move (step u)) d.1 in
          let shown : between (x u last) (x u (last + period)) ≡ step u =
          ap (λ a. between a (x u (last + period))) d.1 ∙ (ap (between (At d.0)) moved ∙ omega (arith, ints)) in
          rep.again t k l a ∙ ap (λ s. move s (x t k)) (one_step t u l u_in ∙ sym shown)
