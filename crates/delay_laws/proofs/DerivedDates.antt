-- The least dating of a net of releases is the delayed dating and the releases together.
use Rattle.std.proofs.Common.{ℕ, zero, suc, ◌+◌, ◌-◌, ◌<◌, ◌≤◌, ◌≡◌, List, true, false, ltb, cond, length, get_or, refl, sym, ap, subst, ◌∙◌, arith, ⊎_elim}
use Rattle.std.specs.Prelude.{All, pos}
use Rattle.std.proofs.lemmas.Bool.{cases_lt}
use Rattle.std.proofs.lemmas.Bool.Decides.{nat_tests}
use Rattle.std.proofs.lemmas.Int.{ints}
use Rattle.std.proofs.lemmas.List.{get_or_default}
use Rattle.periodic_laws.specs.dioid.declared.dates.Date.TheVariants.{At}
use Rattle.periodic_laws.specs.dioid.Dates.{IsAtMostDate, delayed}
use Rattle.periodic_laws.specs.dioid.DateOrder.{Le}
use Rattle.periodic_laws.proofs.dioid_proofs.AtMost.{le_refl, le_is, le_trans, le_antisym}
use Rattle.teg_net.specs.declared.entries.Place.{Place}
use Rattle.teg_net.specs.declared.entries.PlaceId.{PlaceId}
use Rattle.teg_net.specs.Nets.{NetLists, HasListsOfInputs, HasListsByRule}
use Rattle.teg_net.specs.Circuits.{no_place, place_at, IsLive}
use Rattle.periodic_laws.specs.teg_model.Systems.{available_in, IsFeasibleIn}
use Rattle.periodic_laws.specs.teg_model.LiveRanks.{HasEndsInRange, IsRanked}
use Rattle.periodic_laws.specs.teg_model.Datings.{implicit_place, initial_date, available_at, listed_releases, IsFeasibleUnder, IsLeastDating, system_with}
use Rattle.periodic_laws.specs.teg_model.LeastDatings.{IsTight}
use Rattle.periodic_laws.proofs.teg_model_proofs.Delays.{delayed_not}
use Rattle.periodic_laws.proofs.teg_model_proofs.OfNet.{all_extended_in, extended_has, implicit_is, tight_of_least}
use Rattle.periodic_laws.proofs.teg_model_proofs.Tokens.{available_after, available_first, available_same, implicit_keeps}
use Rattle.periodic_laws.proofs.teg_model_proofs.LiveRanks.{live_is_ranked}
use Rattle.periodic_laws.proofs.teg_model_proofs.DateFunctions.{Dating}
use Rattle.delay_laws.specs.declared.table.Timetable.{Timetable}
use Rattle.delay_laws.specs.Delays.{IsRelease, IsDelayedBy, together}
use Rattle.delay_laws.specs.ReleaseNets.{IsSamePlace, release_place, IsReleaseNet}
use Rattle.delay_laws.proofs.Releases.{release_rises}
use Rattle.delay_laws.proofs.ReleaseLists.{lists_release}
use Rattle.delay_laws.proofs.Derived.{which, leads_below, stays_live}
use Rattle.delay_laws.proofs.Steps.{together_first, together_second}
use Rattle.settled_laws.proofs.Alike.{AreAlike}

-- ---- places and datings

-- what holds of the place of each number holds of each place
all_places : (net : NetLists) (P : Place → Type 0) → ((i : ℕ) → i < length net.places → P (place_at net (record { index = i }))) → All P net.places
all_places net P h i d l = subst P (get_or_default net.places i no_place d l) (h i l)

-- places that are the same but for their names have their tokens available at the same dates
same_available : (x : Dating) (p q : Place) (k : ℕ) → IsSamePlace p q → available_in initial_date x p k ≡ available_in initial_date x q k
same_available x p q k s =
    ⊎_elim
    (λ (l : p.tokens < k).
    let tokens = s.tokens in
    let from : x q.from.index (k - q.tokens) ≡ x p.from.index (k - p.tokens) = ap (λ (z : ℕ). x z (k - q.tokens)) (sym s.from) ∙ ap (λ (z : ℕ). x p.from.index (k - z)) (sym s.tokens) in
    available_after initial_date x p k (x p.from.index (k - p.tokens)) l refl
    ∙ ap (λ (z : ℕ). delayed z (x p.from.index (k - p.tokens))) s.hold
    ∙ sym (available_after initial_date x q k (x p.from.index (k - p.tokens)) (omega arith) from))
    (λ (l : k ≤ p.tokens).
    let tokens = s.tokens in
    available_first initial_date x p k l ∙ ap (λ (z : List ℕ). At (pos (get_or z (k - 1) 0))) s.ready ∙ sym (available_first initial_date x q k (omega arith)))
    (cases_lt p.tokens k)

-- y for the first transitions, and w past them
pub beside : ℕ → Dating → Dating → Dating
beside n y w i k = cond (ltb i n) (y i k) (w i k)

beside_is : (n : ℕ) (y w : Dating) (i k : ℕ) → i < n → beside n y w i k ≡ y i k
unfolding beside
beside_is n y w i k l = let e : ltb i n ≡ true = grind (arith, nat_tests) in rw e refl

beside_not : (n : ℕ) (y w : Dating) (i k : ℕ) → n ≤ i → beside n y w i k ≡ w i k
unfolding beside
beside_not n y w i k l = let e : ltb i n ≡ false = grind (arith, nat_tests) in rw e refl

-- the token of a release place is available at the date of its input
released_at : (x : Dating) (n i k : ℕ) → 1 ≤ k → available_in initial_date x (release_place n i) k ≡ x (n + i) k
released_at x n i k o =
    let e : k - 0 ≡ k = omega arith in
    available_after initial_date x (release_place n i) k (x (n + i) k) o (ap (x (n + i)) e) ∙ delayed_not (x (n + i) k)

module _ (net : NetLists) (ends : HasEndsInRange net) (live : IsLive net) (period : ℕ) (t : Timetable) (derived : NetLists)
    (own_ends : HasEndsInRange derived) (inputs : HasListsOfInputs derived) (rules : HasListsByRule derived) (r : IsReleaseNet net period t derived) where
  abbrev n : ℕ
  n = length net.transitions

  abbrev w : Dating
  w i k = listed_releases derived (n + i) k

  release : IsRelease net period t w
  release = lists_release net period t derived inputs rules r

  -- the releases never fall
  w_rises : (i k : ℕ) → i < n → 1 ≤ k → Le (w i k) (w i (k + 1))
  w_rises i k l o =
      let one = release i k l o in
      let two = release i (k + 1) l (omega arith) in
      let up = release_rises period t i k one.0 two.0 one.2 two.2 in
      le_trans (le_is one.1) (le_trans (record { holds = omega (arith, ints) }) (le_is (sym two.1)))

  w_from_zero : (i k : ℕ) → i < n → 1 ≤ k → Le (At (pos 0)) (w i k)
  w_from_zero i k l o = let one = release i k l o in le_trans (record { holds = omega (arith, ints) }) (le_is (sym one.1))

  -- the implicit place of an input asks for no more than its releases
  waits_itself : (x : Dating) (i k : ℕ) → i < n → 1 ≤ k → ((j : ℕ) → 1 ≤ j → j < k → x (n + i) j ≡ w i j) → Le (available_in initial_date x (implicit_place (n + i)) k) (w i k)
  waits_itself x i k l o before =
      ⊎_elim
      (λ (m : 1 < k).
      let e : (k - 1) + 1 ≡ k = omega arith in
      le_trans (le_is (available_after initial_date x (implicit_place (n + i)) k (w i (k - 1)) m (before (k - 1) (omega arith) (omega arith)) ∙ delayed_not (w i (k - 1))))
      (le_trans (w_rises i (k - 1) l (omega arith)) (le_is (ap (w i) e))))
      (λ (m : k ≤ 1). le_trans (le_is (available_first initial_date x (implicit_place (n + i)) k m)) (w_from_zero i k l o))
      (cases_lt 1 k)

  module _ (y : Dating) (h : IsLeastDating derived y) where
    tight : IsTight derived (listed_releases derived) y
    tight =
        let ranked : IsRanked derived = live_is_ranked derived own_ends (stays_live net ends period t derived r live) in
        tight_of_least derived (listed_releases derived) y ranked.0 ranked.1 ranked.2 h

    -- each input fires at its releases
    input_is : (b i k : ℕ) → k ≤ b → i < n → 1 ≤ k → y (n + i) k ≡ w i k
    input_is zero i k few l o = absurd (omega arith)
    input_is (suc b) i k few l o =
        let twice = r.twice in
        let up : Le (y (n + i) k) (w i k) =
        record {
          holds = tight.tight (n + i) k (w i k) (omega arith) o
              (all_extended_in derived (λ p. p.to.index ≡ n + i → IsAtMostDate (available_at y p k) (w i k))
              (all_places derived (λ p. p.to.index ≡ n + i → IsAtMostDate (available_at y p k) (w i k))
              (λ j m e. let low = leads_below net ends period t derived r (record { index = j }) m in absurd (omega arith)))
              (λ u m e. (le_trans (le_is (ap (λ (z : ℕ). available_in initial_date y (implicit_place z) k) e)) (waits_itself y i k l o (λ j a c. input_is b i j (omega arith) l a))).holds))
              (λ a. (le_refl (w i k)).holds);
        } in
        le_antisym up (record { holds = h.feasible.inputs (n + i) k o (r.are_inputs i l) })

    abbrev x : Dating
    x = beside n y w

    x_is : (i k : ℕ) → i < n → x i k ≡ y i k
    x_is i k l = beside_is n y w i k l

    -- an own place asks for the same in both nets
    own_keeps : (k : ℕ) → 1 ≤ k → (j : ℕ) → j < length net.places → Le (available_in initial_date x (place_at net (record { index = j })) k) (x (place_at net (record { index = j })).to.index k)
    own_keeps k o j l =
        let p : Place = place_at net (record { index = j }) in
        let q : Place = place_at derived (record { index = j }) in
        let same : IsSamePlace q p = r.own j l in
        let in' = ends j no_place l in
        let count = r.place_count in
        let kept : Le (available_in initial_date y q k) (y q.to.index k) =
        record { holds = extended_has derived (λ c. IsAtMostDate (available_at y c k) (y c.to.index k)) (λ i m. h.feasible.places k o i no_place m) j (omega arith) } in
        le_trans (le_is (available_same initial_date x y p k (λ m. x_is p.from.index (k - p.tokens) in'.0) ∙ sym (same_available y q p k same)))
        (le_trans kept (le_is (ap (λ (z : ℕ). y z k) same.to ∙ sym (x_is p.to.index k in'.1))))

    x_released : (i k : ℕ) → i < n → 1 ≤ k → Le (w i k) (y i k)
    x_released i k l o =
        let q : Place = place_at derived (record { index = length net.places + i }) in
        let same : IsSamePlace q (release_place n i) = r.added i l in
        let count = r.place_count in
        let kept : Le (available_in initial_date y q k) (y q.to.index k) =
        record { holds = extended_has derived (λ c. IsAtMostDate (available_at y c k) (y c.to.index k)) (λ i m. h.feasible.places k o i no_place m) (length net.places + i) (omega arith) } in
        le_trans (le_is (sym (same_available y q (release_place n i) k same ∙ released_at y n i k o ∙ input_is k i k (omega arith) l o)))
        (le_trans kept (le_is (ap (λ (z : ℕ). y z k) same.to)))

    x_feasible : IsFeasibleIn (system_with net initial_date w) x
    x_feasible = record {
      places = λ k o. all_extended_in net (λ p. IsAtMostDate (available_in initial_date x p k) (x p.to.index k))
          (all_places net (λ p. IsAtMostDate (available_in initial_date x p k) (x p.to.index k)) (λ j l. (own_keeps k o j l).holds))
          (λ u l. (
          let twice = r.twice in
          let kept : Le (available_in initial_date y (implicit_place u) k) (y u k) = record { holds = implicit_keeps derived (listed_releases derived) y h.feasible u k (omega arith) o } in
          le_trans (le_is (available_same initial_date x y (implicit_place u) k (λ m. x_is u (k - 1) l))) (le_trans kept (le_is (sym (x_is u k l))))).holds);
      releases = λ i k o. (⊎_elim
          (λ (l : i < n). le_trans (x_released i k l o) (le_is (sym (x_is i k l))))
          (λ (l : n ≤ i). le_is (sym (beside_not n y w i k l)))
          (cases_lt i n)).holds;
    }

    module _ (z : Dating) (f : IsFeasibleIn (system_with net initial_date w) z) where
      abbrev both : Dating
      both = together n z w

      both_first : (i k : ℕ) → i < n → both i k ≡ z i k
      both_first i k l = together_first n z w i k l

      both_input : (i k : ℕ) → both (n + i) k ≡ w i k
      both_input i k = let e : (n + i) - n ≡ i = omega arith in together_second n z w (n + i) k (omega arith) ∙ ap (λ (j : ℕ). w j k) e

      own_kept : (k : ℕ) → 1 ≤ k → (p : PlaceId) → p.index < length net.places → IsSamePlace (place_at derived p) (place_at net p)
          → Le (available_in initial_date both (place_at derived p) k) (both (place_at derived p).to.index k)
      own_kept k o id l same =
          let q : Place = place_at derived id in
          let p : Place = place_at net id in
          let in' = ends id.index no_place l in
          let kept : Le (available_in initial_date z p k) (z p.to.index k) =
          record { holds = extended_has net (λ c. IsAtMostDate (available_in initial_date z c k) (z c.to.index k)) (λ i m. f.places k o i no_place m) id.index l } in
          le_trans (le_is (same_available both q p k same ∙ available_same initial_date both z p k (λ m. both_first p.from.index (k - p.tokens) in'.0)))
          (le_trans kept (le_is (sym (both_first p.to.index k in'.1) ∙ ap (λ (j : ℕ). both j k) (sym same.to))))

      release_kept : (k : ℕ) → 1 ≤ k → (q : Place) (i : ℕ) → i < n → IsSamePlace q (release_place n i) → Le (available_in initial_date both q k) (both q.to.index k)
      release_kept k o q i l same =
          le_trans (le_is (same_available both q (release_place n i) k same ∙ released_at both n i k o ∙ both_input i k))
          (le_trans (record { holds = f.releases i k o }) (le_is (sym (both_first i k l) ∙ ap (λ (j : ℕ). both j k) (sym same.to))))

      place_kept : (k : ℕ) → 1 ≤ k → (j : ℕ) → j < length derived.places
          → Le (available_in initial_date both (place_at derived (record { index = j })) k) (both (place_at derived (record { index = j })).to.index k)
      place_kept k o j l =
          ⊎_elim
          (λ (a : (j < length net.places) × IsSamePlace (place_at derived (record { index = j })) (place_at net (record { index = j }))). own_kept k o (record { index = j }) a.0 a.1)
          (λ (a : (i : ℕ) × (i < n) × (j ≡ length net.places + i) × IsSamePlace (place_at derived (record { index = j })) (release_place n i)).
          release_kept k o (place_at derived (record { index = j })) a.0 a.1 a.3)
          (which net ends period t derived r (record { index = j }) l)

      implicit_kept : (k : ℕ) → 1 ≤ k → (u : ℕ) → u < n + n → Le (available_in initial_date both (implicit_place u) k) (both u k)
      implicit_kept k o u l =
          ⊎_elim
          (λ (m : u < n).
          let own = implicit_is net u m in
          let kept : Le (available_in initial_date z (implicit_place u) k) (z u k) =
          record { holds = subst (λ (c : Place). IsAtMostDate (available_in initial_date z c k) (z c.to.index k)) own.2 (f.places k o own.0 no_place own.1) } in
          le_trans (le_is (available_same initial_date both z (implicit_place u) k (λ a. both_first u (k - 1) m))) (le_trans kept (le_is (sym (both_first u k m)))))
          (λ (m : n ≤ u).
          let e : n + (u - n) ≡ u = omega arith in
          le_trans (le_is (ap (λ (j : ℕ). available_in initial_date both (implicit_place j) k) (sym e)))
          (le_trans (waits_itself both (u - n) k (omega arith) o (λ j a b. both_input (u - n) j))
          (le_is (sym (both_input (u - n) k) ∙ ap (λ (j : ℕ). both j k) e))))
          (cases_lt u n)

      both_feasible : IsFeasibleUnder derived (listed_releases derived) both
      both_feasible = record {
        places = λ k o. all_extended_in derived (λ p. IsAtMostDate (available_at both p k) (both p.to.index k))
            (all_places derived (λ p. IsAtMostDate (available_at both p k) (both p.to.index k)) (λ j l. (place_kept k o j l).holds))
            (λ u l. let twice = r.twice in (implicit_kept k o u (omega arith)).holds);
        inputs = λ i k o a. (⊎_elim
            (λ (l : i < n). absurd (r.no_input i l a))
            (λ (l : n ≤ i).
            let e : n + (i - n) ≡ i = omega arith in
            le_is (ap (λ (j : ℕ). listed_releases derived j k) (sym e) ∙ sym (both_input (i - n) k) ∙ ap (λ (j : ℕ). both j k) e))
            (cases_lt i n)).holds;
      }

      x_below : (i k : ℕ) → 1 ≤ k → IsAtMostDate (x i k) (z i k)
      x_below i k o = (⊎_elim
          (λ (l : i < n).
          let twice = r.twice in
          let low : Le (y i k) (both i k) = record { holds = h.least both both_feasible i k (omega arith) o } in
          le_trans (le_is (x_is i k l)) (le_trans low (le_is (both_first i k l))))
          (λ (l : n ≤ i). le_trans (le_is (beside_not n y w i k l)) (record { holds = f.releases i k o }))
          (cases_lt i n)).holds

    pub is_delayed : IsDelayedBy net period t (beside n y w) w
    is_delayed = record { release = release; least = record { feasible = x_feasible; least = λ z f i k o. x_below z f i k o } }

    pub are_alike : AreAlike (n + n) y (together n (beside n y w) w)
    are_alike = record {
      same = λ i k l o.
          ⊎_elim
          (λ (m : i < n). sym (together_first n x w i k m ∙ x_is i k m))
          (λ (m : n ≤ i).
          let e : n + (i - n) ≡ i = omega arith in
          ap (λ (j : ℕ). y j k) (sym e) ∙ input_is k (i - n) k (omega arith) (omega arith) o ∙ sym (together_second n x w i k m))
          (cases_lt i n);
    }
